-- From a login on, while no day is opened and no other login of the series is taken, what is sent there is the messages
-- from the login's start on, one after the other; and all of them where none is left. Assumes nothing.
use Prim.Native.Nat.{ℕ, suc, ◌+◌, ◌≤◌, ◌<◌}
use native.Mathlib.Omega.{arith}
use mathlib.Core.Path.{◌≡◌, refl, ap, ◌∙◌, sym, subst}
use mathlib.Core.List.{List, [], ◌∷◌, ◌++◌, append-nil}
use mathlib.Core.Bool.{Bool, true, false, cond}
use mathlib.Core.Option.{some}
use borrow.Author.Tests.{eqb-true, eqb-false}
use lib.ListN.{length, get_elem?}
use lib.Dec.{eqb}
use Rattle.flow.specs.declared.sender.Place.{Place}
use Rattle.flow.specs.Ends.{is_served, published_of, place_of}
use Rattle.flow.specs.Log.{entry_of}
use Rattle.flow.specs.Serving.{send_packets, send_bytes, next_packet, last_packet, after_packet, send_of}
use Rattle.flow.specs.World.{InSeries, in_series, only, so_far, packets_in, Event, SenderSide, World, step}
use Rattle.flow.specs.Agreement.{since, in_that, published_on}
use Rattle.flow.proofs.ends.SenderLookups.{served-next, place-next, place_other}
use Rattle.flow.proofs.calls.Serving.{Seated}
use Rattle.flow.proofs.source.Moves.{Move, stays, opens, publishes, logs-in, sends, sends-packet, sent_side}
use Rattle.flow.proofs.source.Moves.{packet_side, step-moves}
use Rattle.flow.proofs.lines.Steps.{Steps}
use Rattle.flow.proofs.lines.Moves.{steps-keep}
use Rattle.flow.proofs.source.Growth.{Grown, grown-same, grown-along, move-grows}
use Rattle.flow.proofs.source.Served.{ServedSide}
use Rattle.flow.proofs.source.Kept.{move-served, published-count}
use Rattle.flow.proofs.second.SentFrom.{sent_in, answered_in, SentAs, SentFrom, from-published, from-same}
use Rattle.flow.proofs.second.SentFrom.{from_more, sent-numbered, finished-numbered}
use Rattle.flow.proofs.source.Goings.{Unfinished, move-unfinished}
use Rattle.flow.proofs.source.Sends.{drained-exactly}
use Rattle.flow.proofs.logins.Taken.{LoginTaken, start_at, login-next}
use Rattle.flow.proofs.common.Extends.{none-some}
use Rattle.flow.proofs.common.Lists.{since-same, that-more, append-empty}
use Rattle.flow.proofs.source.Days.{openings-grow}
use Rattle.std.specs.Prelude.{Some, None, Ok}

-- ─── Any event ───

-- What holds of the side since then, whatever was called.
pub record Since (v u : SenderSide) (s d k : ℕ) : Type 0 where
  pub grown : Grown v u
  pub openings : v.openings ≤ u.openings
  pub served : ServedSide u
  pub unfinished : Unfinished u
  pub sent : u.openings ≡ v.openings → answered_in v u s ≡ [] → SentFrom v u s d k

one-not-none : {A : Type 0} (b : Bool) (x : A) → cond b (x ∷ []) [] ≡ [] → b ≡ false
one-not-none true x q = cc
one-not-none false x q = refl

module _ (v : SenderSide) (s d k : ℕ) where
  -- A packet: of another series, or not the message's last, or its last.
  module _ (u : SenderSide) (t : ℕ) (x : List ℕ) (r : Seated u.end t)
      (b : (place_of u.end t).next ≤ published_of u.end t)
      (c : entry_of u.end u.log t (place_of u.end t).next ≡ some x)
      (l : (place_of u.end t).piece < length (send_packets u.end t x)) (z : Since v u s d k)
      (before : SentFrom v u s d k)
    where
      abbrev far : List (List ℕ)
      far = so_far t u.transmissions ++ (next_packet u.end t x ∷ [])

      -- The place behind it, of the series s.
      after-packet : (last : Bool) → last_packet u.end t x ≡ last
          → (is_served (after_packet u.end t (last_packet u.end t x)) s ≡ is_served u.end s)
          × ((s ≡ t → ⊥) → place_of (after_packet u.end t (last_packet u.end t x)) s ≡ place_of u.end s)
          × ((place_of (after_packet u.end t (last_packet u.end t x)) t).login ≡ true)
          × ((place_of (after_packet u.end t (last_packet u.end t x)) t).next ≡ cond last (suc (place_of u.end t).next)
          (place_of u.end t).next)
      unfolding after_packet
      after-packet true e =
          let p = place-next u.end t r.served z.served.eight (suc (place_of u.end t).next) 0 in
          rw e (
            served-next u.end t r.served (suc (place_of u.end t).next) 0 s,
            λ n. place_other u.end t r.served (suc (place_of u.end t).next) 0 s n,
            ap (λ (y : Place). y.login) p,
            ap (λ (y : Place). y.next) p,
          )
      after-packet false e =
          let next = (place_of u.end t).next in
          let piece = (place_of u.end t).piece + 1 in
          let p = place-next u.end t r.served z.served.eight next piece in
          rw e (
            served-next u.end t r.served next piece s,
            λ n. place_other u.end t r.served next piece s n,
            ap (λ (y : Place). y.login) p,
            ap (λ (y : Place). y.next) p,
          )

      none-there : last_packet u.end t x ≡ false → sent_in v (packet_side u t x) s ≡ sent_in v u s
      none-there e =
          ap (λ (m : List (InSeries (List (List ℕ)))). in_that s (since v.messages m))
          (ap (λ (y : Bool). u.messages ++ only y (in_series t far)) e ∙ append-nil u.messages)

      one-there : last_packet u.end t x ≡ true
          → sent_in v (packet_side u t x) s ≡ sent_in v u s ++ cond (eqb t s) (far ∷ []) []
      one-there e =
          ap (λ (y : Bool). in_that s (since v.messages (u.messages ++ only y (in_series t far)))) e
          ∙ that-more s t v.messages u.messages far z.grown.messages

      packet-sent : SentFrom v (packet_side u t x) s d k
      packet-sent = go (eqb t s) refl (last_packet u.end t x) refl
        where
          go : (y : Bool) → eqb t s ≡ y → (last : Bool) → last_packet u.end t x ≡ last
              → SentFrom v (packet_side u t x) s d k
          go true q true e =
              let same = eqb-true t s q in
              let f : sent_in v (packet_side u t x) s ≡ sent_in v u s ++ (far ∷ []) = rw q at (one-there e) in
              let p = after-packet true e in
              from_more v u z.served s d k before (packet_side u t x) far refl refl p.0
              (rw (← same) (p.2, p.3)) f
              (subst (λ (i : ℕ). SentFrom v u i d k → SentAs u i d (place_of u.end i).next far) same
              (λ g. finished-numbered v u z.served t d k g z.unfinished x r b c l e) before)
          go true q false e =
              let same = eqb-true t s q in
              let p = after-packet false e in
              from-same v u z.served s d k before (packet_side u t x) refl refl p.0
              (rw (← same) (p.2, p.3)) (none-there e)
          go false q true e =
              let n = eqb-false t s q in
              let f : sent_in v (packet_side u t x) s ≡ sent_in v u s ++ [] = rw q at (one-there e) in
              let p = after-packet true e in
              let y = p.1 (λ j. n (sym j)) in
              from-same v u z.served s d k before (packet_side u t x) refl refl p.0
              (ap (λ (l : Place). l.login) y ∙ before.login, ap (λ (l : Place). l.next) y)
              (f ∙ append-nil (sent_in v u s))
          go false q false e =
              let n = eqb-false t s q in
              let p = after-packet false e in
              let y = p.1 (λ j. n (sym j)) in
              from-same v u z.served s d k before (packet_side u t x) refl refl p.0
              (ap (λ (l : Place). l.login) y ∙ before.login, ap (λ (l : Place). l.next) y) (none-there e)

  move-sent : (u w : SenderSide) → Move u w → Since v u s d k → w.openings ≡ v.openings → answered_in v w s ≡ []
      → SentFrom v w s d k
  move-sent u w stays z o a = z.sent o a
  move-sent u w (opens date ss rs b c) z o a = absurd (let l = z.openings in omega arith)
  move-sent u w (publishes t tid content p) z o a =
      from-published v u z.served s d k (z.sent o a) t tid content p.served
  move-sent u w (logs-in t p content out x y c g q) z o a =
      let more = that-more s t v.answers u.answers _ z.grown.answers in
      let e = append-empty (answered_in v u s) (cond (eqb t s) (_ ∷ []) []) (sym more ∙ a) in
      let n = eqb-false t s (one-not-none (eqb t s) _ e.1) in
      let m : s ≡ t → ⊥ = λ p. n (sym p) in
      let y = place_other u.end t q.served _ 0 s m in
      from-same v u z.served s d k (z.sent o e.0) _ refl refl (served-next u.end t q.served _ 0 s)
      (ap (λ (l : Place). l.login) y ∙ (z.sent o e.0).login, ap (λ (l : Place). l.next) y) refl
  move-sent u w (sends t x r b c) z o a =
      go (eqb t s) refl
      (that-more s t v.messages u.messages (packets_in (send_bytes u.end t x)) z.grown.messages)
    where
      before : SentFrom v u s d k
      before = z.sent o a

      go : (y : Bool) → eqb t s ≡ y → sent_in v (sent_side u t x) s ≡ sent_in v u s ++ cond (eqb t s)
          (packets_in (send_bytes u.end t x) ∷ []) [] →
          SentFrom v (sent_side u t x) s d k
      go true q e =
          let same = eqb-true t s q in
          let f : sent_in v (sent_side u t x) s ≡ sent_in v u s ++ (packets_in (send_bytes u.end t x) ∷ []) = rw q at e in
          subst (λ (i : ℕ). (sent_in v (sent_side u t x) i ≡ sent_in v u i ++ (packets_in (send_bytes u.end t x) ∷ []))
          → SentFrom v u i d k → SentFrom v (sent_side u t x) i d k) same
          (λ f g.
          let p = place-next u.end t r.served z.served.eight (suc (place_of u.end t).next) 0 in
          from_more v u z.served t d k g (sent_side u t x) _ refl refl
          (served-next u.end t r.served (suc (place_of u.end t).next) 0 t)
          (ap (λ (l : Place). l.login) p, ap (λ (l : Place). l.next) p) f
          (sent-numbered v u z.served t d k g x r b c))
          f before
      go false q e =
          let n = eqb-false t s q in
          let f : sent_in v (sent_side u t x) s ≡ sent_in v u s ++ [] = rw q at e in
          let p = place_other u.end t r.served (suc (place_of u.end t).next) 0 s (λ p. n (sym p)) in
          from-same v u z.served s d k before (sent_side u t x) refl refl
          (served-next u.end t r.served (suc (place_of u.end t).next) 0 s)
          (ap (λ (l : Place). l.login) p ∙ before.login, ap (λ (l : Place). l.next) p)
          (f ∙ append-nil (sent_in v u s))
  move-sent u w (sends-packet t x r b c l) z o a = packet-sent u t x r b c l z (z.sent o a)

  pub move-since : (u w : SenderSide) → Move u w → Since v u s d k → Since v w s d k
  move-since u w m z = record {
    grown = grown-along v u w z.grown (move-grows u w m);
    openings = let a = z.openings in let b = openings-grow u w m in omega arith;
    served = move-served u w m z.served;
    unfinished = move-unfinished u w m z.served z.unfinished;
    sent = move-sent u w m z;
  }

  -- Right behind the login.
  pub since-login : ServedSide v → Unfinished v → v.day ≡ Some d → is_served v.end s ≡ true
      → place_of v.end s ≡ record { login = true; next = k; piece = 0 } → Since v v s d k
  since-login h y q o p = record {
    grown = grown-same v;
    openings = omega arith;
    served = h;
    unfinished = y;
    sent = λ a b. record {
      day = q;
      served = o;
      login = ap (λ (x : Place). x.login) p;
      next = rw (since-same v.messages) (ap (λ (x : Place). x.next) p ∙ omega arith);
      each =
          λ j ps r. absurd
          (none-some ps
          (ap (λ (l : List (InSeries (List (List ℕ)))). get_elem? (in_that s l) j) (sym (since-same v.messages)) ∙ r));
    };
  }

-- ─── Over the world ───

-- u before the login, then the login, then fs.
module _
    (u : World) (right : ServedSide u.serving) (going : Unfinished u.serving) (e : Event) (s d : ℕ) (a : List ℕ) (t : LoginTaken u e s a)
    (day : (step u e).serving.day ≡ Some d) {w : World} (fs : Steps (step u e) w) where
  still-served : is_served (step u e).serving.end s ≡ true
  still-served =
      ap (λ (w : World). is_served w.serving.end s) t.effect
      ∙ served-next u.serving.end s t.tests.served (start_at t) 0 s ∙ t.tests.served

  login-since : Since (step u e).serving w.serving s d (start_at t)
  login-since =
      steps-keep (λ (v : SenderSide). Since (step u e).serving v s d (start_at t))
      (move-since (step u e).serving s d (start_at t)) fs
      (since-login (step u e).serving s d (start_at t)
      (move-served u.serving (step u e).serving (step-moves u e) right)
      (move-unfinished u.serving (step u e).serving (step-moves u e) right going) day still-served
      (login-next u e s a right.eight t).0)

  module _
      (no-opening : w.serving.openings ≡ (step u e).serving.openings)
      (last : in_that s (since (step u e).serving.answers w.serving.answers) ≡ []) where
    pub login-sends : SentFrom (step u e).serving w.serving s d (start_at t)
    login-sends = login-since.sent no-opening last

    -- None is left: the messages sent since reach from the start to the last one published.
    pub all-sent : (out : List ℕ) → (send_of w.serving.end s w.serving.log out).answer ≡ (Ok None) →
        start_at t + length (sent_in (step u e).serving w.serving s) ≡ suc (length (published_on w s d))
    all-sent out q =
        let h : ServedSide w.serving = login-since.served in
        let f = login-sends in
        let g = (drained-exactly w.serving h s out d f.day).0 q in
        let p = (h.placed s g.0.served g.0.login).1 in
        let c = published-count w.serving h s d f.day g.0.served in
        let n : (place_of w.serving.end s).next ≡ start_at t + length (sent_in (step u e).serving w.serving s) =
        f.next in
        let l = g.1 in
        omega arith
