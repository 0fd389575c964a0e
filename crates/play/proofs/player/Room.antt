-- Buffers that lack no room are large enough for each call. Assumes nothing.
use Prim.Native.Nat.{ℕ, ◌+◌, ◌-◌, ◌/◌, ◌≤◌}
use mathlib.Core.Path.{◌≡◌, refl, sym, ◌∙◌}
use mathlib.Core.List.{List}
use mathlib.Core.Bool.{Bool, true, false, cond}
use native.Mathlib.Omega.{arith}
use borrow.Author.Tests.{ltb-false}
use lib.ListN.{length, take, length-take}
use lib.Dec.{ltb}
use Rattle.play.specs.declared.player.Player.{Player}
use Rattle.play.specs.declared.calls.Call.{Call}
use Rattle.play.specs.Calls.{call_of}
use Rattle.play.specs.Played.{counted_player, lacks_room, Fits}
use Rattle.play.proofs.calls.Limits.{limited}

first-no : (b x : Bool) → cond b true x ≡ false → b ≡ false
first-no false x e = refl
first-no true x e = e

then-no : (b x : Bool) → cond b true x ≡ false → x ≡ false
then-no false x e = e
then-no true x e = absurd (never e)
  where
    never : true ≡ false → ⊥
    never q = let z : ◌≡◌ {A = ℕ} 0 1 = cc in omega arith

-- A line more changes no length.
module _ (p : Player) where
  pub counted-log : (counted_player p).log ≡ p.log
  unfolding counted_player
  counted-log = go (ltb p.lines 4294967295)
    where
      go : (b : Bool) → (cond b (record {
        lines = p.lines + 1;
        ready = p.ready;
        log = p.log;
        chain = p.chain;
        sender = p.sender;
        receiver = p.receiver;
        checkpoints = p.checkpoints;
        calendar = p.calendar;
        book = p.book;
      }) p).log ≡ p.log
      go true = refl
      go false = refl

  pub counted-chain : (counted_player p).chain ≡ p.chain
  unfolding counted_player
  counted-chain = go (ltb p.lines 4294967295)
    where
      go : (b : Bool) → (cond b (record {
        lines = p.lines + 1;
        ready = p.ready;
        log = p.log;
        chain = p.chain;
        sender = p.sender;
        receiver = p.receiver;
        checkpoints = p.checkpoints;
        calendar = p.calendar;
        book = p.book;
      }) p).chain ≡ p.chain
      go true = refl
      go false = refl

module _ (p : Player) (line : List ℕ) (log chain bytes out text : ℕ) (b : Bool)
    (h : b ≡ lacks_room p (length line) log chain bytes out text) (f : b ≡ false) where
  pub roomy : (524448 ≤ text) × (65536 ≤ out) × (length line ≤ bytes) × (length line / 2 ≤ (text - 524448) / 7)
      × (p.chain ≤ 262144) × (p.log ≤ log) × (p.chain ≤ chain)
  unfolding lacks_room
  roomy =
      let a1 = sym h ∙ f in
      let a2 = then-no (ltb text 524448) _ a1 in
      let a3 = then-no (ltb out 65536) _ a2 in
      let a4 = then-no (ltb bytes (length line)) _ a3 in
      let a5 = then-no (ltb ((text - 524448) / 7) (length line / 2)) _ a4 in
      let a6 = then-no (ltb 262144 p.chain) _ a5 in
      let a7 = then-no (ltb log p.log) _ a6 in (
        ltb-false text 524448 (first-no (ltb text 524448) _ a1),
        ltb-false out 65536 (first-no (ltb out 65536) _ a2),
        ltb-false bytes (length line) (first-no (ltb bytes (length line)) _ a3),
        ltb-false ((text - 524448) / 7) (length line / 2) (first-no (ltb ((text - 524448) / 7) (length line / 2)) _ a4),
        ltb-false 262144 p.chain (first-no (ltb 262144 p.chain) _ a5),
        ltb-false log p.log (first-no (ltb log p.log) _ a6),
        ltb-false chain p.chain a7,
      )

  pub text-room : 64 ≤ text
  text-room = omega (arith, roomy.0)

  pub said-room : (q : Player) (len : ℕ) (c : Call) → q ≡ counted_player p → c ≡ call_of (take len line)
      → Fits q c (length (take len line)) log chain bytes out text
  said-room q len c e g =
      let n : length (take len line) ≤ length line = rw length-take (omega arith) in
      let l : q.log ≡ p.log = rw e (counted-log p) in
      let k : q.chain ≡ p.chain = rw e (counted-chain p) in
      let r = roomy in (
        limited (take len line) c g,
        omega (arith, n, r.2),
        r.1,
        omega (arith, n, r.3, r.0),
        omega (arith, k, r.4, r.0),
        omega (arith, r.0),
        omega (arith, l, r.5),
        omega (arith, k, r.6),
        omega (arith, n, k, r.3, r.4, r.0),
      )
