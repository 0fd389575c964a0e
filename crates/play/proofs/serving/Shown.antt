-- What a call of the serving end shows, as the definitions mean it, over plain variables. Assumes nothing.
use Prim.Native.Nat.{ℕ}
use mathlib.Core.Path.{◌≡◌, ap}
use mathlib.Core.List.{List, ◌++◌}
use mathlib.Core.Bool.{Bool, true, false}
use lib.ListN.{replicate, take, drop}
use Rattle.flow.specs.declared.sender.Sender.{Sender}
use Rattle.flow.specs.Types.{Opened}
use Rattle.flow.specs.Types.{Published}
use Rattle.flow.specs.Types.{LoggedIn}
use Rattle.flow.specs.Serving.{login_of, send_of, send_packet_of}
use Rattle.listing.specs.Text.{WroteText}
use Rattle.play.specs.declared.player.Player.{Player}
use Rattle.play.specs.declared.player.Played.{Played}
use Rattle.play.specs.Words.{series_from, reserves_from}
use Rattle.play.specs.Lines.{opened_line, published_line, login_answer_line, sent_line, sent_packet_line}
use Rattle.play.specs.Played.{with_sender, ShowsOpenDay, ShowsPublish, ShowsLogin, ShowsSend, PlaysPublish}
use Rattle.play.specs.Played.{PlaysLogin, ShowsSendPacket, PlaysSend, PlaysOpenDay}
use Rattle.flow.specs.Types.{SendAnswer, PacketSent}

pub sender-is : (p pl : Player) (e m : Sender) → pl ≡ with_sender p e → e ≡ m → pl ≡ with_sender p m
sender-is p pl e m q f = rw (← f) q

module _ {l t : List ℕ} {to : ℕ} where
  pub opened-is : (a m : Opened) → a ≡ m → WroteText l 0 (opened_line a) t to → WroteText l 0 (opened_line m) t to
  opened-is a m e q = rw (← e) q

  pub published-is : (a m : Published) → a ≡ m → WroteText l 0 (published_line a) t to
      → WroteText l 0 (published_line m) t to
  published-is a m e q = rw (← e) q

-- An output that was cleared.
module _ (n : ℕ) (o : List ℕ) (z : o ≡ replicate n 0) where
  module _ (x : Sender) (s : ℕ) (packet content : List ℕ) where
    pub login-sender : (p pl : Player) (e : Sender) → pl ≡ with_sender p e → e ≡ (login_of x s packet content o).end
        → pl ≡ with_sender p (login_of x s packet content (replicate n 0)).end
    login-sender p pl e q f = rw (← z, ← f) q

    pub login-shown : {l t : List ℕ} {to : ℕ} (a : LoggedIn) (b : List ℕ) → a ≡ (login_of x s packet content o).answer
        → b ≡ (login_of x s packet content o).bytes → WroteText l 0 (login_answer_line b a) t to
        → WroteText l 0 (login_answer_line (login_of x s packet content (replicate n 0)).bytes
        (login_of x s packet content (replicate n 0)).answer) t to
    login-shown a b f g q = rw (← z, ← f, ← g) q

    pub login-bytes : (b : List ℕ) → b ≡ (login_of x s packet content o).bytes
        → b ≡ (login_of x s packet content (replicate n 0)).bytes
    login-bytes b g = rw (← z) g

  module _ (x : Sender) (s : ℕ) (log : List ℕ) where
    pub send-sender : (p pl : Player) (e : Sender) → pl ≡ with_sender p e → e ≡ (send_of x s log o).end
        → pl ≡ with_sender p (send_of x s log (replicate n 0)).end
    send-sender p pl e q f = rw (← z, ← f) q

    pub send-shown : {l t : List ℕ} {to : ℕ} (a : SendAnswer) (b : List ℕ) → a ≡ (send_of x s log o).answer
        → b ≡ (send_of x s log o).bytes → WroteText l 0 (sent_line b a) t to
        → WroteText l 0 (sent_line (send_of x s log (replicate n 0)).bytes (send_of x s log (replicate n 0)).answer) t to
    send-shown a b f g q = rw (← z, ← f, ← g) q

    pub send-bytes : (b : List ℕ) → b ≡ (send_of x s log o).bytes → b ≡ (send_of x s log (replicate n 0)).bytes
    send-bytes b g = rw (← z) g

    pub packet-sender : (p pl : Player) (e : Sender) → pl ≡ with_sender p e → e ≡ (send_packet_of x s log o).end
        → pl ≡ with_sender p (send_packet_of x s log (replicate n 0)).end
    packet-sender p pl e q f = rw (← z, ← f) q

    pub packet-shown : {l t : List ℕ} {to : ℕ} (a : PacketSent) (b : List ℕ) → a ≡ (send_packet_of x s log o).answer
        → b ≡ (send_packet_of x s log o).bytes → WroteText l 0 (sent_packet_line b a) t to
        → WroteText l 0 (sent_packet_line (send_packet_of x s log (replicate n 0)).bytes
        (send_packet_of x s log (replicate n 0)).answer) t to
    packet-shown a b f g q = rw (← z, ← f, ← g) q

    pub packet-bytes : (b : List ℕ) → b ≡ (send_packet_of x s log o).bytes
        → b ≡ (send_packet_of x s log (replicate n 0)).bytes
    packet-bytes b g = rw (← z) g

-- ─── The call of a line ───

module _ (p : Player) (r : Played) (t t' : List ℕ) where
  pub day-played : (line : List ℕ) (date n : ℕ) (series reserves log : List ℕ)
      → ShowsOpenDay p date series reserves (take p.log log) r t t' → series ≡ series_from line 1 n
      → reserves ≡ reserves_from line 1 n → PlaysOpenDay p line date n log r t t'
  day-played line date n series reserves log h e f = rw (e, f) at h

  pub publish-played : (s tid : ℕ) (content said log part : List ℕ)
      → ShowsPublish p s tid content (take p.log log) part r t t' → content ≡ said
      → PlaysPublish p s tid said log (part ++ drop p.log log) r t t'
  publish-played s tid content said log part h e =
      (rw e at h.0, rw e at (ap (λ (l : List ℕ). l ++ drop p.log log) h.1))

  pub login-played : (s n room : ℕ) (packet content said given out : List ℕ)
      → ShowsLogin p s packet content n out r t t' → n ≡ room → packet ≡ said → content ≡ given
      → PlaysLogin p s said given room r t t'
  login-played s n room packet content said given out h z e f = rw (← z, ← e, ← f) h.0

  module _ (s n room : ℕ) (single : Bool) (log out : List ℕ) where
    pub send-played : single ≡ false → ShowsSend p s (take p.log log) n out r t t' → n ≡ room
        → PlaysSend p s log room single r t t'
    send-played e h z = rw (e, ← z) h.0

    pub packet-played : single ≡ true → ShowsSendPacket p s (take p.log log) n out r t t' → n ≡ room
        → PlaysSend p s log room single r t t'
    packet-played e h z = rw (e, ← z) h.0
