-- What a call of the receiving end shows, as the definitions mean it, over plain variables. Assumes nothing.
use Prim.Native.Nat.{ℕ}
use mathlib.Core.Path.{◌≡◌, ap}
use mathlib.Core.List.{List, ◌++◌}
use lib.ListN.{replicate, take, drop}
use Rattle.flow.specs.declared.receiver.Receiver.{Receiver}
use Rattle.flow.specs.Types.{Requested}
use Rattle.flow.specs.Types.{Confirmed}
use Rattle.flow.specs.declared.receiver.Received.{Received}
use Rattle.flow.specs.Receiving.{request_login_of}
use Rattle.listing.specs.Text.{WroteText}
use Rattle.play.specs.declared.player.Player.{Player}
use Rattle.play.specs.declared.player.Played.{Played}
use Rattle.play.specs.Lines.{confirmed_line, requested_line, received_line}
use Rattle.play.specs.Played.{with_receiver, ShowsOpenEnd, ShowsAsk, ShowsAnswer, ShowsReceive, PlaysAsk}
use Rattle.play.specs.Played.{PlaysReceive}

pub receiver-is : (p pl : Player) (e m : Receiver) → pl ≡ with_receiver p e → e ≡ m → pl ≡ with_receiver p m
receiver-is p pl e m q f = rw (← f) q

module _ {l t : List ℕ} {to : ℕ} where
  pub confirmed-is : (a m : Confirmed) → a ≡ m → WroteText l 0 (confirmed_line a) t to → WroteText l 0 (confirmed_line m) t to
  confirmed-is a m e q = rw (← e) q

  pub received_is : (packet b c : List ℕ) (a m : Received) → b ≡ c → a ≡ m
      → WroteText l 0 (received_line packet b a) t to → WroteText l 0 (received_line packet c m) t to
  received_is packet b c a m f e q = rw (← f, ← e) q

-- An output that was cleared.
module _ (n : ℕ) (o : List ℕ) (z : o ≡ replicate n 0) (x : Receiver) (s : ℕ) (content : List ℕ) (b : List ℕ)
    (g : b ≡ (request_login_of x s content o).bytes) where
  pub ask-bytes : b ≡ (request_login_of x s content (replicate n 0)).bytes
  ask-bytes = rw (← z) g

  pub ask-shown : {l t : List ℕ} {to : ℕ} (a : Requested) → a ≡ (request_login_of x s content o).answer
      → WroteText l 0 (requested_line b a) t to
      → WroteText l 0 (requested_line (request_login_of x s content (replicate n 0)).bytes
      (request_login_of x s content (replicate n 0)).answer) t to
  ask-shown a f q = rw (← z, ← f, ← g) q

-- ─── The call of a line ───

module _ (p : Player) (r : Played) (t t' : List ℕ) where
  pub end-played : (series said : List ℕ) → ShowsOpenEnd p series r t t' → series ≡ said → ShowsOpenEnd p said r t t'
  end-played series said h e = rw e at h

  pub ask-played : (s n room : ℕ) (content said out : List ℕ) → ShowsAsk p s content n out r t t' → n ≡ room
      → content ≡ said → PlaysAsk p s said room r t t'
  ask-played s n room content said out h z e = rw (← z, ← e) h.0

  pub answer-played : (s : ℕ) (packet said : List ℕ) → ShowsAnswer p s packet r t t' → packet ≡ said
      → ShowsAnswer p s said r t t'
  answer-played s packet said h e = rw e at h

  pub receive-played : (packet said chain part : List ℕ) → ShowsReceive p packet (take p.chain chain) part r t t'
      → packet ≡ said → PlaysReceive p said chain (part ++ drop p.chain chain) r t t'
  receive-played packet said chain part h e =
      (rw e at h.0, rw e at (ap (λ (l : List ℕ). l ++ drop p.chain chain) h.1))
