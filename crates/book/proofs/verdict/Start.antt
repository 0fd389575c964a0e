-- What Start takes, and what an increment is. Assumes nothing.
use Prim.Native.Nat.{ℕ, zero, suc, ◌-◌, ◌<◌, ◌≤◌}
use mathlib.Core.Path.{◌≡◌, refl, sym, ◌∙◌}
use mathlib.Core.Logic.{inl, inr, ◌↔◌}
use mathlib.Core.List.{List, [], ◌∷◌}
use mathlib.Core.Bool.{Bool, true, false, cond, not, ◌&&◌, false≢true}
use native.Mathlib.Omega.{arith}
use borrow.Author.Tests.{le-ltb, le-leb, leb-true, eq-eqb, ne_eqb, eqb-true, eqb-false, ltb-true, ltb-false}
use lib.ListN.{length, get_or}
use lib.Dec.{ltb, leb, eqb}
use Rattle.ftd.specs.Values.{every, is_text, is_value}
use Rattle.ftd.specs.declared.refusal.Refusal.TheVariants.{Item}
use Rattle.book.specs.declared.calls.Book.{Book}
use Rattle.book.specs.Quantity.{twos}
use Rattle.book.specs.Calls.{is_code, done, refusing, started, start_of}
use Rattle.book.specs.Verdict.{IsText, IsCode, Increment}
use Rattle.book.proofs.quantity.Increments.{twos-below, twos-above}
use Rattle.book.proofs.agreement.Events.{not_done}
use Rattle.std.specs.Prelude.{Ok, Err}

-- ─── A code ───

text_says : (b : ℕ) → is_text b ≡ true → IsText b
text_says b e = go (leb 32 b) refl (eqb b 127) refl e
  where
    go : (x : Bool) → leb 32 b ≡ x → (y : Bool) → eqb b 127 ≡ y → (x && not y) ≡ true → IsText b
    go true p true q f = absurd (false≢true f)
    go true p false q f = record { from = leb-true 32 b p; other = eqb-false b 127 q }
    go false p y q f = absurd (false≢true f)

says-text : (b : ℕ) → IsText b → is_text b ≡ true
says-text b t = rw (le-leb 32 b t.from, ne_eqb b 127 t.other)

both : (a b : Bool) → (a && b) ≡ true → (a ≡ true) × (b ≡ true)
both true b e = (refl, e)
both false b e = absurd (false≢true e)

every-says : (l : List ℕ) → every is_text l ≡ true → (i : ℕ) → i < length l → IsText (get_or l i 0)
every-says [] e i h = absurd (omega arith)
every-says (x ∷ l) e zero h = text_says x (both (is_text x) (every is_text l) e).0
every-says (x ∷ l) e (suc i) h = every-says l (both (is_text x) (every is_text l) e).1 i (omega arith)

says-every : (l : List ℕ) → ((i : ℕ) → i < length l → IsText (get_or l i 0)) → every is_text l ≡ true
says-every [] f = refl
says-every (x ∷ l) f =
    let a = says-text x (f zero (omega arith)) in
    let b = says-every l (λ i h. f (suc i) (omega arith)) in
    rw (a, b)

module _ (code : List ℕ) where
  code-says : is_code code ≡ true → IsCode code
  unfolding is_value
  code-says e =
      let x = both (eqb (length code) 10) (every is_text code) e in
      record { ten = eqb-true (length code) 10 x.0; text = every-says code x.1 }

  says-code : IsCode code → is_code code ≡ true
  unfolding is_value
  says-code c = rw (eq-eqb (length code) 10 c.ten, says-every code c.text)

module _ (b : Book) (code : List ℕ) where
  start-answer : (start_of b code).answer ≡ cond (is_code code) (Ok tt) (Err Item)
  unfolding start_of
  start-answer = go (is_code code)
    where
      go : (t : Bool) → (cond t (done (started code)) (refusing b Item)).answer ≡ cond t (Ok tt) (Err Item)
      go true = refl
      go false = refl

  pub start-takes : ((start_of b code).answer ≡ (Ok tt)) ↔ IsCode code
  start-takes = (to (is_code code) refl, from)
    where
      to : (t : Bool) → is_code code ≡ t → (start_of b code).answer ≡ (Ok tt) → IsCode code
      to true q e = code-says code q
      to false q e =
          let z : (start_of b code).answer ≡ Err Item = start-answer ∙ rw q in
          absurd (not_done Item (sym z ∙ e))

      from : IsCode code → (start_of b code).answer ≡ (Ok tt)
      from c = start-answer ∙ (rw (says-code code c))

  pub start-refuses : ((start_of b code).answer ≡ Err Item) ↔ (IsCode code → ⊥)
  start-refuses = (to, from (is_code code) refl)
    where
      to : (start_of b code).answer ≡ Err Item → IsCode code → ⊥
      to e c = not_done Item (sym e ∙ start-takes.1 c)

      from : (t : Bool) → is_code code ≡ t → (IsCode code → ⊥) → (start_of b code).answer ≡ Err Item
      from true q n = absurd (n (code-says code q))
      from false q n = start-answer ∙ rw q

  pub start-names : (start_of b code).answer ≡ (Ok tt) → (start_of b code).book.code ≡ code
  unfolding start_of
  start-names e = rw (says-code code (start-takes.0 e))

-- ─── An increment ───

pub twos-is : (v : ℕ) → v ≤ 4294967295 → Increment v (twos v)
twos-is v h = go (ltb v 2147483648) refl
  where
    go : (t : Bool) → ltb v 2147483648 ≡ t → Increment v (twos v)
    go true e =
        let l = ltb-true v 2147483648 e in
        rw (twos-above v l) (record { least = refl; most = le-leb v 2147483647 (omega arith); same = inl refl })
    go false e =
        let l = ltb-false v 2147483648 e in
        let k : 4294967296 - suc (4294967295 - v) ≡ v = omega arith in
        rw (twos-below v l h)
        (record {
          least = le-leb (4294967295 - v) 2147483647 (omega arith);
          most = refl;
          same = inr (rw (le-ltb 4294967296 (suc (4294967295 - v)) (omega arith), k));
        })
