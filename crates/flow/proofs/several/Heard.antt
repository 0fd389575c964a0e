-- The reports of again and held change no last number: what is heard without them is the same. Assumes nothing.
use Prim.Native.Nat.{ℕ, ◌+◌}
use native.Mathlib.Omega.{arith}
use mathlib.Core.Path.{◌≡◌, refl, sym, ap, ◌∙◌}
use mathlib.Core.List.{List, [], ◌∷◌, ◌++◌, append-nil, append_assoc}
use mathlib.Core.Bool.{Bool, true, false, cond}
use borrow.Author.Tests.{eqb-true}
use lib.ListN.{length, get_elem?, length-append}
use lib.Seq.{drop-append_seam}
use Rattle.flow.specs.Answers.{Message}
use Rattle.flow.specs.World.{Dated, Event, open_sender, publish, login, send, send_packet, open_receiver, connect, request_login}
use Rattle.flow.specs.World.{confirm_login, receive, World, step, run}
use Rattle.flow.specs.Agreement.{of, latest, reported, since}
use Rattle.flow.specs.Bufferful.{unheard, heard}
use Rattle.flow.proofs.common.Bools.{clash}
use Rattle.flow.proofs.common.Extends.{Extends, extends-same, extends-append}
use Rattle.flow.proofs.common.Histories.{of-append}
use Rattle.flow.proofs.common.Rows.{by-given}
use Rattle.flow.proofs.first.Half.{SafeWorld, step-safe, safe-agreed}
use Rattle.flow.proofs.source.Moves.{step-moves}
use Rattle.flow.proofs.source.Sources.{Source, move-source}

-- ─── What was handed on and reported only grows ───

abbrev Grows : World → World → Type 0
Grows w u =
    Extends w.receiving.handed u.receiving.handed × Extends w.receiving.reports u.receiving.reports

same_grows : (w : World) → Grows w w
same_grows w = (extends-same w.receiving.handed, extends-same w.receiving.reports)

step-grows : (w : World) (e : Event) → Grows w (step w e)
step-grows w (open_sender date ss rs) = same_grows w
step-grows w (publish s tid content) = same_grows w
step-grows w (login s i content out) =
    by-given (Grows w) w (get_elem? w.receiving.requests i) (same_grows w) (λ p q. same_grows w)
step-grows w (send s out) = same_grows w
step-grows w (send_packet s out) = same_grows w
step-grows w (open_receiver ss) = same_grows w
step-grows w connect = same_grows w
step-grows w (request_login s content out) = same_grows w
step-grows w (confirm_login i) =
    by-given (Grows w) w (get_elem? w.serving.answers i) (same_grows w)
    (λ a q. (extends-same w.receiving.handed, extends-append w.receiving.reports _))
step-grows w (receive i j) =
    by-given (Grows w) w (get_elem? w.serving.transmissions i) (same_grows w) λ m q.
    by-given (Grows w) w (get_elem? m.packets j) (same_grows w) λ p r.
    (extends-append w.receiving.handed _, extends-append w.receiving.reports _)

-- ─── One event ───

unheard-same : (w : World) (e : Event) → unheard w e ≡ true
    → length (step w e).receiving.handed ≡ length w.receiving.handed
unheard-same w (open_sender date ss rs) q = refl
unheard-same w (publish s tid content) q = refl
unheard-same w (login s i content out) q = clash _ q refl
unheard-same w (send s out) q = refl
unheard-same w (send_packet s out) q = refl
unheard-same w (open_receiver ss) q = refl
unheard-same w connect q = refl
unheard-same w (request_login s content out) q = refl
unheard-same w (confirm_login i) q = clash _ q refl
unheard-same w (receive i j) q = eqb-true _ _ q

no_more : {A : Type 0} (a b : List A) → Extends a b → length b ≡ length a → b ≡ a
no_more a b g q = go g.0 g.1
  where
    go : (more : List _) → b ≡ a ++ more → b ≡ a
    go [] p = p ∙ append-nil a
    go (x ∷ l) p =
        let h : length b ≡ length a + length (x ∷ l) = ap length p ∙ length-append a (x ∷ l) in
        absurd (omega (arith, h, q))

latest-along : (n : ℕ) (l k : List ℕ) → latest n (l ++ k) ≡ latest (latest n l) k
latest-along n [] k = refl
latest-along n (x ∷ l) k = latest-along x l k

module _ (s d : ℕ) where
  -- Nothing is handed on: n stays, as it is the count of what was handed on.
  stays : (w u : World) → SafeWorld w → SafeWorld u → u.receiving.handed ≡ w.receiving.handed
      → reported w s d ≡ reported u s d
  stays w u a b q =
      sym (safe-agreed w s d a).exactly
      ∙ ap (λ (l : List (Dated Message)). length (of s d l)) (sym q)
      ∙ (safe-agreed u s d b).exactly

  -- The same reports behind two histories with the same last one.
  appended : (H R X : List (Dated ℕ)) → latest 0 (of s d H) ≡ latest 0 (of s d R)
      → latest 0 (of s d (H ++ X)) ≡ latest 0 (of s d (R ++ X))
  appended H R X q =
      ap (latest 0) (of-append s d H X)
      ∙ latest-along 0 (of s d H) (of s d X)
      ∙ ap (λ (n : ℕ). latest n (of s d X)) q
      ∙ sym (latest-along 0 (of s d R) (of s d X))
      ∙ ap (latest 0) (sym (of-append s d R X))

  heard-step : (w u : World) (H : List (Dated ℕ)) (b : Bool) → Grows w u
      → (b ≡ true → reported w s d ≡ reported u s d)
      → latest 0 (of s d H) ≡ reported w s d
      → latest 0 (of s d (H ++ cond b [] (since w.receiving.reports u.receiving.reports))) ≡ reported u s d
  heard-step w u H true g f q = ap (λ (l : List (Dated ℕ)). latest 0 (of s d l)) (append-nil H) ∙ q ∙ f refl
  heard-step w u H false g f q =
      rw (g.1.1, drop-append_seam w.receiving.reports g.1.0)
      (appended H w.receiving.reports g.1.0 q)

  -- ─── Every list of events ───

  pub heard-run : (w : World) → Source w.serving → SafeWorld w → (H : List (Dated ℕ))
      → latest 0 (of s d H) ≡ reported w s d → (es : List Event)
      → latest 0 (of s d (H ++ heard w es)) ≡ reported (run w es) s d
  heard-run w g h H q [] = ap (λ (l : List (Dated ℕ)). latest 0 (of s d l)) (append-nil H) ∙ q
  heard-run w g h H q (e ∷ es) =
      let safe = step-safe w e g.begun h in
      let grows = step-grows w e in
      let new = cond (unheard w e) [] (since w.receiving.reports (step w e).receiving.reports) in
      ap (λ (l : List (Dated ℕ)). latest 0 (of s d l)) (sym (append_assoc H new (heard (step w e) es)))
      ∙ heard-run (step w e) (move-source w.serving (step w e).serving (step-moves w e) g) safe (H ++ new)
      (heard-step w (step w e) H (unheard w e) grows
      (λ b. stays w (step w e) h safe
      (no_more w.receiving.handed (step w e).receiving.handed grows.0 (unheard-same w e b))) q)
      es
