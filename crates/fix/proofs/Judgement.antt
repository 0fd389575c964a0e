-- How a frame is judged. Assumes nothing.
use Prim.Native.Nat.{ℕ, suc, ◌+◌, ◌<◌}
use mathlib.Core.Path.{◌≡◌, refl, sym, ap, subst, ◌∙◌}
use mathlib.Core.Logic.{◌⊎◌, inl, inr}
use mathlib.Core.List.{List, [], ◌∷◌}
use mathlib.Core.Bool.{Bool, true, false, cond}
use mathlib.Core.Option.{some}
use native.Mathlib.Omega.{arith}
use borrow.Author.Tests.{ltb-true, ltb-false, eqb-true, eqb-false, ne_eqb}
use lib.ListN.{length}
use lib.Dec.{ltb, eqb}
use Rattle.ftd.specs.declared.refusal.Refusal.{Refusal}
use Rattle.ftd.specs.declared.refusal.Refusal.TheVariants.{NotOneFrame, RequiredTag, LowNumber}
use Rattle.ftd.specs.Refusal.{number_of}
use Rattle.fix.specs.declared.kinds.Kind.TheVariants.{Heartbeat, TestRequest, ResendRequest, SequenceReset}
use Rattle.fix.specs.declared.kinds.Kind.TheVariants.{Logout, Logon, Other}
use Rattle.fix.specs.declared.read.Message.{Message}
use Rattle.fix.specs.declared.read.Judged.{Judged}
use Rattle.fix.specs.declared.read.Judged.TheVariants.{Refused, Next, Again, Gap, Reset}
use Rattle.fix.specs.declared.read.Reading.{Reading}
use Rattle.fix.specs.Kinds.{kind_for, kind_of, is_reset}
use Rattle.fix.specs.Fields.{fields_of, says_yes}
use Rattle.fix.specs.Read.{message_of, message_in, reading, numbered_of, judged_of, read_of}
use Rattle.fix.specs.RoundTrips.{text_at}
use Rattle.fix.specs.Judgement.{SaysYes, Resets, Judgement}
use Rattle.fix.specs.Examples.{answer_number}
use Rattle.fix.proofs.Values.{never_true, says-in, in-says, Bears, judged-at, read-bears}
use Rattle.fix.proofs.Values.{Outcome, bears, no_frame, odd_number, odd_tag, outcome}

-- ─── The tests ───

-- A reset without gap fill, as the reader sees it.
abbrev pub ResetNow : Message → Type 0
ResetNow m = (is_reset m.kind ≡ true) × (m.fill ≡ false)

below : (k n : ℕ) → eqb k n ≡ false → ltb n k ≡ false → k < n
below k n e f =
    let a = eqb-false k n e in
    let b = ltb-false n k f in
    omega (arith, a, b)

-- One way for each answer.
pub data Way (m : Message) (duplicate : Bool) (n : ℕ) (r : Reading) : Type 0 where
  is_next : r ≡ reading (n + 1) (Next m) → m.number ≡ n → (ResetNow m → ⊥) → Way m duplicate n r
  is_gap : r ≡ reading n (Gap m) → n < m.number → (ResetNow m → ⊥) → Way m duplicate n r
  is_again : r ≡ reading n (Again m) → m.number < n → duplicate ≡ true → (ResetNow m → ⊥) → Way m duplicate n r
  is_low : r ≡ reading n (Refused LowNumber) → m.number < n → duplicate ≡ false → (ResetNow m → ⊥) → Way m duplicate n r
  resets : r ≡ reading n (Reset m) → ResetNow m → Way m duplicate n r

module _ (m : Message) (duplicate : Bool) (n : ℕ) where
  numbered-way : (ResetNow m → ⊥) → Way m duplicate n (numbered_of m duplicate n)
  unfolding numbered_of
  numbered-way p = go (eqb m.number n) refl (ltb n m.number) refl duplicate refl
    where
      go : (x : Bool) → eqb m.number n ≡ x → (y : Bool) → ltb n m.number ≡ y → (z : Bool) → duplicate ≡ z
          → Way m duplicate n
          (cond x (reading (n + 1) (Next m))
          (cond y (reading n (Gap m)) (cond z (reading n (Again m)) (reading n (Refused LowNumber)))))
      go true e y f z d = is_next refl (eqb-true m.number n e) p
      go false e true f z d = is_gap refl (ltb-true n m.number f) p
      go false e false f true d = is_again refl (below m.number n e f) d p
      go false e false f false d = is_low refl (below m.number n e f) d p

  way : Way m duplicate n (judged_of m duplicate n)
  unfolding judged_of
  way = go (is_reset m.kind) refl m.fill refl
    where
      go : (x : Bool) → is_reset m.kind ≡ x → (y : Bool) → m.fill ≡ y → Way m duplicate n
          (cond x (cond y (numbered_of m duplicate n) (reading n (Reset m))) (numbered_of m duplicate n))
      go true e true f = numbered-way (λ q. never_true (sym q.1 ∙ f))
      go true e false f = resets refl (e, f)
      go false e y f = numbered-way (λ q. never_true (sym e ∙ q.0))

-- ─── The frame that bears a message ───

pub read-way : (b : List ℕ) (m : Message) → Bears b m → (n : ℕ)
    → Way m (says_yes 43 (fields_of (text_at b m.fields))) n (read_of b n)
read-way b m c n = rw (judged-at b m c n) (way m (says_yes 43 (fields_of (text_at b m.fields))) n)

-- ─── A reset by its letter and its field ───

reset-letter : (name : List ℕ) → is_reset (kind_of name) ≡ true → name ≡ 52 ∷ []
unfolding kind_of kind_for
reset-letter [] e = absurd (never_true e)
reset-letter (x ∷ []) e =
    go (eqb x 48) (eqb x 49) (eqb x 50) (eqb x 52) refl (eqb x 53) (eqb x 65) e
  where
    go : (a b c d : Bool) → eqb x 52 ≡ d → (g h : Bool)
        → is_reset (cond a Heartbeat
        (cond b TestRequest
        (cond c ResendRequest (cond d SequenceReset (cond g Logout (cond h Logon Other)))))) ≡ true
        → x ∷ [] ≡ 52 ∷ []
    go true b c d p g h e = absurd (never_true e)
    go false true c d p g h e = absurd (never_true e)
    go false false true d p g h e = absurd (never_true e)
    go false false false true p g h e = ap (λ (k : ℕ). k ∷ []) (eqb-true x 52 p)
    go false false false false p true h e = absurd (never_true e)
    go false false false false p false true e = absurd (never_true e)
    go false false false false p false false e = absurd (never_true e)
reset-letter (x ∷ y ∷ l) e =
    absurd (never_true (rw (ne_eqb (suc (suc (length l))) 1 (λ q. omega (arith, q))) at e))

module _ (b : List ℕ) (m : Message) (c : Bears b m) where
  kind-of : m.kind ≡ kind_of (text_at b m.name)
  unfolding message_of
  kind-of = subst (λ (x : Message). x.kind ≡ kind_of (text_at b x.name)) c.same refl

  fill-of : m.fill ≡ says_yes 123 (fields_of (text_at b m.fields))
  unfolding message_of
  fill-of = subst (λ (x : Message). x.fill ≡ says_yes 123 (fields_of (text_at b x.fields))) c.same refl

  says-no : (k : ℕ) → says_yes k (fields_of (text_at b m.fields)) ≡ false → SaysYes k b m → ⊥
  says-no k e h = never_true (sym e ∙ in-says k (fields_of (text_at b m.fields)) h)

  resets-so : ResetNow m → Resets b m
  resets-so r = (reset-letter (text_at b m.name) (rw kind-of at r.0), says-no 123 (sym fill-of ∙ r.1))

  resets-then : Resets b m → ResetNow m
  unfolding kind_of kind_for
  resets-then r = (rw (kind-of, r.0), go m.fill refl)
    where
      go : (x : Bool) → m.fill ≡ x → x ≡ false
      go true e = absurd (r.1 (says-in 123 (fields_of (text_at b m.fields)) (sym fill-of ∙ e)))
      go false e = refl

-- ─── As the statement asks for it ───

-- Two answers with other numbers are not the same.
pub clash : (r : Reading) (n : ℕ) (x y : Judged) → r ≡ reading n x → r.answer ≡ y
    → (answer_number x ≡ answer_number y → ⊥) → ⊥
clash r n x y e q z = z (ap answer_number (sym (ap (λ (k : Reading). k.answer) e) ∙ q))

module _ (m : Message) (duplicate : Bool) (n : ℕ) (r : Reading) where
  next_of : Way m duplicate n r → r.answer ≡ Next m
      → (m.number ≡ n) × (ResetNow m → ⊥) × (r.expected ≡ n + 1)
  next_of (is_next e h p) q = (h, p, rw e)
  next_of (is_gap e h p) q = absurd (clash r n (Gap m) (Next m) e q (λ z. omega (arith, z)))
  next_of (is_again e h d p) q = absurd (clash r n (Again m) (Next m) e q (λ z. omega (arith, z)))
  next_of (is_low e h d p) q = absurd (clash r n (Refused LowNumber) (Next m) e q (λ z. omega (arith, z)))
  next_of (resets e p) q = absurd (clash r n (Reset m) (Next m) e q (λ z. omega (arith, z)))

  again-of : Way m duplicate n r → r.answer ≡ Again m
      → (m.number < n) × (duplicate ≡ true) × (ResetNow m → ⊥) × (r.expected ≡ n)
  again-of (is_next e h p) q = absurd (clash r (n + 1) (Next m) (Again m) e q (λ z. omega (arith, z)))
  again-of (is_gap e h p) q = absurd (clash r n (Gap m) (Again m) e q (λ z. omega (arith, z)))
  again-of (is_again e h d p) q = (h, d, p, rw e)
  again-of (is_low e h d p) q = absurd (clash r n (Refused LowNumber) (Again m) e q (λ z. omega (arith, z)))
  again-of (resets e p) q = absurd (clash r n (Reset m) (Again m) e q (λ z. omega (arith, z)))

  gap_of : Way m duplicate n r → r.answer ≡ Gap m → (n < m.number) × (ResetNow m → ⊥) × (r.expected ≡ n)
  gap_of (is_next e h p) q = absurd (clash r (n + 1) (Next m) (Gap m) e q (λ z. omega (arith, z)))
  gap_of (is_gap e h p) q = (h, p, rw e)
  gap_of (is_again e h d p) q = absurd (clash r n (Again m) (Gap m) e q (λ z. omega (arith, z)))
  gap_of (is_low e h d p) q = absurd (clash r n (Refused LowNumber) (Gap m) e q (λ z. omega (arith, z)))
  gap_of (resets e p) q = absurd (clash r n (Reset m) (Gap m) e q (λ z. omega (arith, z)))

  reset-of : Way m duplicate n r → r.answer ≡ Reset m → ResetNow m × (r.expected ≡ n)
  reset-of (is_next e h p) q = absurd (clash r (n + 1) (Next m) (Reset m) e q (λ z. omega (arith, z)))
  reset-of (is_gap e h p) q = absurd (clash r n (Gap m) (Reset m) e q (λ z. omega (arith, z)))
  reset-of (is_again e h d p) q = absurd (clash r n (Again m) (Reset m) e q (λ z. omega (arith, z)))
  reset-of (is_low e h d p) q = absurd (clash r n (Refused LowNumber) (Reset m) e q (λ z. omega (arith, z)))
  reset-of (resets e p) q = (p, rw e)

  pub any_of : Way m duplicate n r
      → (message_in r.answer ≡ some m)
      ⊎ ((r.answer ≡ Refused LowNumber) × (m.number < n) × (duplicate ≡ false) × (ResetNow m → ⊥))
  any_of (is_next e h p) = inl (rw e)
  any_of (is_gap e h p) = inl (rw e)
  any_of (is_again e h d p) = inl (rw e)
  any_of (is_low e h d p) = inr (rw e, h, d, p)
  any_of (resets e p) = inl (rw e)

module _ (b : List ℕ) (expected : ℕ) (m : Message) where
  abbrev flag : Bool
  flag = says_yes 43 (fields_of (text_at b m.fields))

  next : (read_of b expected).answer ≡ Next m
      → (m.number ≡ expected) × (Resets b m → ⊥) × ((read_of b expected).expected ≡ expected + 1)
  next q =
      let c = read-bears b expected m (ap message_in q) in
      let y = next_of m flag expected (read_of b expected) (read-way b m c expected) q in
      (y.0, λ z. y.1 (resets-then b m c z), y.2)

  again : (read_of b expected).answer ≡ Again m
      → (m.number < expected) × SaysYes 43 b m × (Resets b m → ⊥) × ((read_of b expected).expected ≡ expected)
  again q =
      let c = read-bears b expected m (ap message_in q) in
      let y = again-of m flag expected (read_of b expected) (read-way b m c expected) q in
      (y.0, says-in 43 (fields_of (text_at b m.fields)) y.1, λ z. y.2 (resets-then b m c z), y.3)

  gap : (read_of b expected).answer ≡ Gap m
      → (expected < m.number) × (Resets b m → ⊥) × ((read_of b expected).expected ≡ expected)
  gap q =
      let c = read-bears b expected m (ap message_in q) in
      let y = gap_of m flag expected (read_of b expected) (read-way b m c expected) q in
      (y.0, λ z. y.1 (resets-then b m c z), y.2)

  reset : (read_of b expected).answer ≡ Reset m → Resets b m × ((read_of b expected).expected ≡ expected)
  reset q =
      let c = read-bears b expected m (ap message_in q) in
      let y = reset-of m flag expected (read_of b expected) (read-way b m c expected) q in
      (resets-so b m c y.0, y.1)

  any : message_in (read_of b expected).answer ≡ some m → (n : ℕ)
      → (message_in (read_of b n).answer ≡ some m)
      ⊎ (((read_of b n).answer ≡ Refused LowNumber) × (m.number < n) × (SaysYes 43 b m → ⊥) × (Resets b m → ⊥))
  any h n = go (any_of m flag n (read_of b n) (read-way b m c n))
    where
      c : Bears b m
      c = read-bears b expected m h

      go : (message_in (read_of b n).answer ≡ some m)
          ⊎ (((read_of b n).answer ≡ Refused LowNumber) × (m.number < n) × (flag ≡ false) × (ResetNow m → ⊥))
          → (message_in (read_of b n).answer ≡ some m)
          ⊎ (((read_of b n).answer ≡ Refused LowNumber) × (m.number < n) × (SaysYes 43 b m → ⊥) × (Resets b m → ⊥))
      go (inl e) = inl e
      go (inr (e, h, d, p)) = inr (e, h, says-no b m c 43 d, λ z. p (resets-then b m c z))

-- With 0 expected no number is lower.
pub bears-zero : (b : List ℕ) (m : Message) → Bears b m → message_in (read_of b 0).answer ≡ some m
bears-zero b m c = go (any_of m (says_yes 43 (fields_of (text_at b m.fields))) 0 (read_of b 0) (read-way b m c 0))
  where
    go : (message_in (read_of b 0).answer ≡ some m)
        ⊎ (((read_of b 0).answer ≡ Refused LowNumber) × (m.number < 0)
        × (says_yes 43 (fields_of (text_at b m.fields)) ≡ false) × (ResetNow m → ⊥))
        → message_in (read_of b 0).answer ≡ some m
    go (inl e) = e
    go (inr (e, h, d, p)) = absurd (omega (arith, h))

low : (b : List ℕ) (expected : ℕ) → (read_of b expected).answer ≡ Refused LowNumber
    → (m : Message) × (message_in (read_of b 0).answer ≡ some m)
low b expected q = go (outcome b)
  where
    other : (r : Refusal) → read_of b expected ≡ reading expected (Refused r) → (number_of r ≡ 30 → ⊥) → ⊥
    other r t n = clash (read_of b expected) expected (Refused r) (Refused LowNumber) t q n

    go : Outcome b → (m : Message) × (message_in (read_of b 0).answer ≡ some m)
    go (no_frame e t) = absurd (other NotOneFrame (t expected) (λ z. omega (arith, z)))
    go (odd_number name fields e p t) = absurd (other NotOneFrame (t expected) (λ z. omega (arith, z)))
    go (odd_tag name fields e p o t) = absurd (other RequiredTag (t expected) (λ z. omega (arith, z)))
    go (bears m c) = (m, bears-zero b m c)

pub judgement : Judgement
judgement = record { next = next; again = again; gap = gap; reset = reset; any = any; low = low }
