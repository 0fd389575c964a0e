-- The names in use are the names that were kept: so which refusal keeping and return give, exactly if. Assumes nothing.
use Prim.Native.Nat.{ℕ, zero, suc, ◌<◌, ◌≤◌}
use native.Mathlib.Omega.{arith}
use mathlib.Core.Path.{◌≡◌, refl, sym, ap, subst, ◌∙◌}
use mathlib.Core.Logic.{◌⊎◌, inl, inr, ◌↔◌}
use mathlib.Core.List.{List, [], ◌∷◌, ◌++◌, map}
use mathlib.Core.Bool.{Bool, true, false, not, ◌&&◌, ◌||◌}
use mathlib.Core.Option.{some, none-ne-some}
use borrow.Author.Tests.{eqb-true, eqb-false, eq-eqb, ne_eqb, ltb-false, le-ltb, leb-true, leb-false, le-leb, not-true}
use borrow.Author.Tests.{not-false}
use lib.ListN.{length, get_elem?, length-map, replicate}
use lib.Dec.{ltb, leb, eqb}
use Rattle.ftd.specs.Refusal.{number_of}
use Rattle.ftd.specs.declared.refusal.Refusal.TheVariants.{WrongName, FifthName, UnknownName}
use Rattle.flow.specs.declared.receiver.Kept.{Kept}
use Rattle.flow.specs.declared.receiver.Receiver.{Receiver}
use Rattle.flow.specs.declared.checkpoint.Checkpoints.{Checkpoints}
use Rattle.flow.specs.Types.{Saved}
use Rattle.flow.specs.Types.{Restored}
use Rattle.flow.specs.Ends.{Left, member, most_series, no_live, kept_series}
use Rattle.flow.specs.Answers.{is_taken, saved_said, restored_said}
use Rattle.flow.specs.Checkpoints.{most_names, most_letters, all_letters, wrong_name, name_code, fresh_checkpoints}
use Rattle.flow.specs.Checkpoints.{used_names, is_used, checkpoint_of, with_checkpoint, keep_of, restored, restore_of}
use Rattle.flow.specs.Rewind.{RewindEvent, call, keep, restore, RewindWorld, rewind_start, rewind_step}
use Rattle.flow.specs.Rewind.{rewind_run, Allowed, keeping, returning, KeepsNow, WasKept, In, Apart}
use Rattle.flow.specs.Rewind.{FourOthers}
use Rattle.flow.proofs.common.Bools.{or-neither, and_both, clash}
use Rattle.flow.proofs.common.Rows.{by-when}
use Rattle.flow.proofs.rewind.Names.{same_code}
use Rattle.flow.proofs.rewind.Lookups.{Four, fresh-four, used-length, names-again, names_more, four-again, four-more}
use Rattle.flow.proofs.rewind.Restored.{restored-series}
use Rattle.flow.proofs.rewind.Linked.{Keeps-as, keep-as, keeps, Restores-as, restore-as, restores}
use Rattle.std.specs.Prelude.{Ok, Err}

-- ─── Names that are allowed ───

letter_at : (l : List ℕ) → all_letters l ≡ true → (i x : ℕ) → get_elem? l i ≡ some x → (65 ≤ x) × (x ≤ 90)
letter_at [] h i x q = absurd (none-ne-some x q)
letter_at (y ∷ l) h zero x q =
    let e : y ≡ x = cc in
    let p = (and_both (leb 65 y && leb y 90) (all_letters l) h).0 in
    let b = and_both (leb 65 y) (leb y 90) p in
    let two : (65 ≤ y) × (y ≤ 90) = (leb-true 65 y b.0, leb-true y 90 b.1) in
    rw e at two
letter_at (y ∷ l) h (suc i) x q = letter_at l (and_both (leb 65 y && leb y 90) (all_letters l) h).1 i x q

all-letters : (l : List ℕ) → ((i x : ℕ) → get_elem? l i ≡ some x → (65 ≤ x) × (x ≤ 90)) → all_letters l ≡ true
all-letters [] h = refl
all-letters (y ∷ l) h =
    let b = h 0 y refl in
    rw (le-leb 65 y b.0, le-leb y 90 b.1) (all-letters l λ i x q. h (suc i) x q)

pub allowed : (name : List ℕ) → wrong_name name ≡ false → Allowed name
unfolding wrong_name
allowed name h =
    let a = or-neither (eqb (length name) 0 || ltb most_letters (length name)) (not (all_letters name)) h in
    let b = or-neither (eqb (length name) 0) (ltb most_letters (length name)) a.0 in
    let n = eqb-false (length name) 0 b.0 in
    record {
      one = positive (length name) n;
      eight = ltb-false 8 (length name) b.1;
      letters = letter_at name (not-false (all_letters name) a.1);
    }
  where
    positive : (n : ℕ) → (n ≡ 0 → ⊥) → 0 < n
    positive zero f = absurd (f refl)
    positive (suc n) f = omega arith

pub not-wrong : (name : List ℕ) → Allowed name → wrong_name name ≡ false
unfolding wrong_name
not-wrong name h =
    let z : eqb (length name) 0 ≡ false = ne_eqb (length name) 0 (λ e. let o = h.one in omega arith) in
    rw (z, le-ltb 8 (length name) h.eight, all-letters name h.letters) refl

-- ─── Lists in which nothing stands twice ───

module _ {A : Type 0} where
  -- A list without one that stands in it.
  abbrev without : (x : A) (l : List A) → In x l → List A
  without x [] p = absurd p
  without x (y ∷ l) (inl q) = l
  without x (y ∷ l) (inr p) = y ∷ without x l p

  without-length : (x : A) (l : List A) (p : In x l) → length l ≡ suc (length (without x l p))
  without-length x [] p = absurd p
  without-length x (y ∷ l) (inl q) = refl
  without-length x (y ∷ l) (inr p) = ap suc (without-length x l p)

  in_without : (x : A) (l : List A) (p : In x l) (y : A) → (y ≡ x → ⊥) → In y l → In y (without x l p)
  in_without x [] p y n q = absurd p
  in_without x (z ∷ l) (inl e) y n (inl q) = absurd (n (q ∙ sym e))
  in_without x (z ∷ l) (inl e) y n (inr q) = q
  in_without x (z ∷ l) (inr p) y n (inl q) = inl q
  in_without x (z ∷ l) (inr p) y n (inr q) = inr (in_without x l p y n q)

  -- There are no more of them than places.
  apart-few : (k l : List A) → Apart k → ((x : A) → In x k → In x l) → length k ≤ length l
  apart-few [] l a f = omega arith
  apart-few (x ∷ k) l a f =
      let p = f x (inl refl) in
      let m = without-length x l p in
      let n = apart-few k (without x l p) a.1 λ y q. in_without x l p y (λ e. a.0 (rw (← e) q)) (f y (inr q)) in
      omega arith

  in-last : (l : List A) (x : A) → In x (l ++ (x ∷ []))
  in-last [] x = inl refl
  in-last (y ∷ l) x = inr (in-last l x)

  in-before : (y : A) (l : List A) (x : A) → In y l → In y (l ++ (x ∷ []))
  in-before y [] x p = absurd p
  in-before y (z ∷ l) x (inl q) = inl q
  in-before y (z ∷ l) x (inr p) = inr (in-before y l x p)

  in_either : (y : A) (l : List A) (x : A) → In y (l ++ (x ∷ [])) → In y l ⊎ (y ≡ x)
  in_either y [] x (inl q) = inr q
  in_either y [] x (inr p) = absurd p
  in_either y (z ∷ l) x (inl q) = inl (inl q)
  in_either y (z ∷ l) x (inr p) = go (in_either y l x p)
    where
      go : In y l ⊎ (y ≡ x) → In y (z ∷ l) ⊎ (y ≡ x)
      go (inl q) = inl (inr q)
      go (inr q) = inr q

  apart-last : (l : List A) (x : A) → Apart l → (In x l → ⊥) → Apart (l ++ (x ∷ []))
  apart-last [] x a n = ((λ p. p), tt)
  apart-last (y ∷ l) x a n = ((λ p. go (in_either y l x p)), apart-last l x a.1 λ p. n (inr p))
    where
      go : In y l ⊎ (y ≡ x) → ⊥
      go (inl q) = a.0 q
      go (inr q) = n (inl (sym q))

-- ─── The names in use ───

-- As numbers they are those of a list of allowed names, none twice.
record Names (c : Checkpoints) (names : List (List ℕ)) : Type 0 where
  four : Four c
  used : used_names c ≡ map name_code names
  good : (n : List ℕ) → In n names → wrong_name n ≡ false
  apart : Apart names

in-member : (n : List ℕ) (l : List (List ℕ)) → In n l → member (name_code n) (map name_code l) ≡ true
in-member n [] p = absurd p
in-member n (x ∷ l) (inl q) = rw (eq-eqb (name_code x) (name_code n) (ap name_code (sym q))) refl
in-member n (x ∷ l) (inr p) = go (eqb (name_code x) (name_code n)) (in-member n l p)
  where
    go : (b : Bool) → member (name_code n) (map name_code l) ≡ true → (b || member (name_code n) (map name_code l)) ≡ true
    go true q = refl
    go false q = q

member-in : (n : List ℕ) → wrong_name n ≡ false → (l : List (List ℕ)) → ((x : List ℕ) → In x l → wrong_name x ≡ false)
    → member (name_code n) (map name_code l) ≡ true → In n l
member-in n a [] f h = clash _ h refl
member-in n a (x ∷ l) f h =
    go (eqb (name_code x) (name_code n)) refl h (member-in n a l λ y p. f y (inr p))
  where
    go : (b : Bool) → eqb (name_code x) (name_code n) ≡ b → (b || member (name_code n) (map name_code l)) ≡ true
        → (member (name_code n) (map name_code l) ≡ true → In n l) → In n (x ∷ l)
    go true q k g = inl (same_code n x a (f x (inl refl)) (sym (eqb-true (name_code x) (name_code n) q)))
    go false q k g = inr (g k)

module _ (c : Checkpoints) (names : List (List ℕ)) (h : Names c names) where
  is-used : (n : List ℕ) → In n names → is_used c n ≡ true
  unfolding is_used
  is-used n p = rw h.used (in-member n names p)

  used-in : (n : List ℕ) → wrong_name n ≡ false → is_used c n ≡ true → In n names
  unfolding is_used
  used-in n a u = member-in n a names h.good (rw h.used at u)

  names-count : length names ≡ c.count
  names-count = sym (length-map names name_code) ∙ ap length (sym h.used) ∙ used-length c h.four

fresh-names : Names fresh_checkpoints []
unfolding fresh_checkpoints used_names
fresh-names = record { four = fresh-four; used = refl; good = λ n p. absurd p; apart = tt }

map_last : (l : List (List ℕ)) (x : List ℕ) → map name_code (l ++ (x ∷ [])) ≡ map name_code l ++ (name_code x ∷ [])
map_last [] x = refl
map_last (y ∷ l) x = ap (λ (r : List ℕ). name_code y ∷ r) (map_last l x)

-- ─── Along the events ───

-- Behind something that came to `now`: the names are those of before, and these.
record More (c : Checkpoints) (before : List (List ℕ)) (now : List ℕ → Type 0) : Type 0 where
  names : List (List ℕ)
  these : Names c names
  from : (n : List ℕ) → In n names → In n before ⊎ now n
  old : (n : List ℕ) → In n before → In n names
  new : (n : List ℕ) → now n → In n names

-- Nothing was kept.
no_more : (c : Checkpoints) (names : List (List ℕ)) → Names c names → (now : List ℕ → Type 0)
    → ((n : List ℕ) → now n → ⊥) → More c names now
no_more c names h now f =
    record { names = names; these = h; from = λ n p. inl p; old = λ n p. p; new = λ n p. absurd (f n p) }

-- A name was kept.
module _ (c : Checkpoints) (names : List (List ℕ)) (h : Names c names) (name : List ℕ) (kept : Kept)
    (good : wrong_name name ≡ false) (room : is_used c name ≡ false → c.count < 4) where
  kept-names : (now : List ℕ → Type 0) → now name → ((n : List ℕ) → now n → name ≡ n)
      → More (with_checkpoint c name kept) names now
  kept-names now here only = go (is_used c name) refl
    where
      go : (b : Bool) → is_used c name ≡ b → More (with_checkpoint c name kept) names now
      go true q =
          record {
            names = names;
            these =
                record {
                  four = four-again c h.four name kept q;
                  used = names-again c h.four name kept q ∙ h.used;
                  good = h.good;
                  apart = h.apart;
                };
            from = λ n p. inl p;
            old = λ n p. p;
            new = λ n p. subst (λ (m : List ℕ). In m names) (only n p) (used-in c names h name good q);
          }
      go false q =
          record {
            names = names ++ (name ∷ []);
            these =
                record {
                  four = four-more c h.four name kept q (room q);
                  used = names_more c h.four name kept q (room q)
                      ∙ ap (λ (l : List ℕ). l ++ (name_code name ∷ [])) h.used
                      ∙ sym (map_last names name);
                  good = λ n p. either n (in_either n names name p);
                  apart = apart-last names name h.apart λ p. clash _ (is-used c names h name p) q;
                };
            from = λ n p. named n (in_either n names name p);
            old = λ n p. in-before n names name p;
            new = λ n p. subst (λ (m : List ℕ). In m (names ++ (name ∷ []))) (only n p) (in-last names name);
          }
        where
          either : (n : List ℕ) → In n names ⊎ (n ≡ name) → wrong_name n ≡ false
          either n (inl p) = h.good n p
          either n (inr p) = rw p good

          named : (n : List ℕ) → In n names ⊎ (n ≡ name) → In n names ⊎ now n
          named n (inl p) = inl p
          named n (inr p) = inr (rw p here)

keep-names : (w : RewindWorld) (names : List (List ℕ)) → Names w.checkpoints names → (name : List ℕ)
    (r : Left Checkpoints Saved) → Keeps-as w.checkpoints w.now.receiving.end name r
    → More r.end names (λ n. (name ≡ n) × (is_taken (saved_said r.answer) ≡ true))
keep-names w names h name r (Keeps-as.refuses x) = no_more _ names h _ λ n p. clash _ p.1 refl
keep-names w names h name r (keeps a room) =
    kept-names w.checkpoints names h name w.now.receiving.end.kept a room _ (refl, refl) λ n p. p.0

step-names : (w : RewindWorld) (names : List (List ℕ)) → Names w.checkpoints names → (e : RewindEvent)
    → More (rewind_step w e).checkpoints names (KeepsNow w e)
step-names w names h (call e) = no_more _ names h _ λ n p. p
step-names w names h (keep name) = keep-names w names h name _ (keep-as w.checkpoints w.now.receiving.end name)
step-names w names h (restore name) = no_more _ names h _ λ n p. p

-- One behind the other.
both-more : (c d : Checkpoints) (names : List (List ℕ)) (now later : List ℕ → Type 0) (m : More c names now)
    → More d m.names later → More d names (λ n. now n ⊎ later n)
both-more c d names now later m k =
    record {
      names = k.names;
      these = k.these;
      from = λ n p. from n (k.from n p);
      old = λ n p. k.old n (m.old n p);
      new = new;
    }
  where
    first : (n : List ℕ) → In n names ⊎ now n → In n names ⊎ (now n ⊎ later n)
    first n (inl q) = inl q
    first n (inr q) = inr (inl q)

    from : (n : List ℕ) → In n m.names ⊎ later n → In n names ⊎ (now n ⊎ later n)
    from n (inl p) = first n (m.from n p)
    from n (inr p) = inr (inr p)

    new : (n : List ℕ) → now n ⊎ later n → In n k.names
    new n (inl p) = k.old n (m.new n p)
    new n (inr p) = k.new n p

along : (w : RewindWorld) (names : List (List ℕ)) → Names w.checkpoints names → (es : List RewindEvent)
    → More (rewind_run w es).checkpoints names (WasKept w es)
along w names h [] = no_more _ names h _ λ n p. p
along w names h (e ∷ es) =
    let m = step-names w names h e in
    both-more _ _ names (KeepsNow w e) (WasKept (rewind_step w e) es) m (along (rewind_step w e) m.names m.these es)

-- ─── The answers ───

-- What each call answers, by its tests.
data Said-kept (c : Checkpoints) (name : List ℕ) : Saved → Type 0 where
  wrong : wrong_name name ≡ true → Said-kept c name (Err WrongName)
  fifth : wrong_name name ≡ false → is_used c name ≡ false → 4 ≤ c.count → Said-kept c name (Err FifthName)
  done : wrong_name name ≡ false → (is_used c name ≡ false → c.count < 4) → Said-kept c name (Ok tt)

abbrev Keeping-says : Checkpoints → List ℕ → Left Checkpoints Saved → Type 0
Keeping-says c name r = Said-kept c name r.answer

said-kept : (c : Checkpoints) (e : Receiver) (name : List ℕ) → Keeping-says c name (keep_of c e name)
unfolding keep_of
said-kept c e name =
    by-when (Keeping-says c name) (wrong_name name) (λ q. wrong q) λ a.
    by-when (Keeping-says c name) (not (is_used c name) && leb most_names c.count)
    (λ q. five a (is_used c name) refl q) λ b.
    done a λ u. leb-false 4 c.count (room (is_used c name) u b)
  where
    five : wrong_name name ≡ false → (x : Bool) → is_used c name ≡ x → (not x && leb 4 c.count) ≡ true
        → Said-kept c name (Err FifthName)
    five a true u q = clash _ q refl
    five a false u q = fifth a u (leb-true 4 c.count q)

    room : (x : Bool) → x ≡ false → (not x && leb 4 c.count) ≡ false → leb 4 c.count ≡ false
    room x u b = rw u at b

data Said-returned (c : Checkpoints) (name : List ℕ) : Restored → Type 0 where
  wrong : wrong_name name ≡ true → Said-returned c name (Err WrongName)
  unknown : wrong_name name ≡ false → is_used c name ≡ false → Said-returned c name (Err UnknownName)
  done : wrong_name name ≡ false → is_used c name ≡ true → Said-returned c name (Ok tt)

abbrev Return-says : Checkpoints → List ℕ → Left Receiver Restored → Type 0
Return-says c name r = Said-returned c name r.answer

said-returned : (c : Checkpoints) (e : Receiver) (name : List ℕ) → Return-says c name (restore_of c e name)
unfolding restore_of
said-returned c e name =
    by-when (Return-says c name) (wrong_name name) (λ q. Said-returned.wrong q) λ a.
    by-when (Return-says c name) (not (is_used c name)) (λ q. unknown a (not-true (is_used c name) q)) λ b.
    Said-returned.done a (not-false (is_used c name) b)

-- Answers told apart: by the refusal's number, 0 where there is none.
abbrev kept-number : Saved → ℕ
kept-number (Ok tt) = 0
kept-number (Err r) = number_of r

abbrev returned-number : Restored → ℕ
returned-number (Ok tt) = 0
returned-number (Err r) = number_of r

other-answer : {A : Type 0} (f : A → ℕ) (a b : A) → a ≡ b → (f a ≡ f b → ⊥) → ⊥
other-answer f a b q n = n (ap f q)

-- ─── 31 ───

module _ (c : Checkpoints) (e : Receiver) (name : List ℕ) where
  pub wrong-kept : ((keep_of c e name).answer ≡ Err WrongName) ↔ (Allowed name → ⊥)
  wrong-kept = (to _ (said-kept c e name), from _ (said-kept c e name))
    where
      to : (a : Saved) → Said-kept c name a → a ≡ Err WrongName → Allowed name → ⊥
      to a (wrong h) q al = clash _ h (not-wrong name al)
      to a (fifth h u k) q al = other-answer kept-number _ _ q λ z. omega arith
      to a (done h r) q al = other-answer kept-number _ _ q λ z. omega arith

      from : (a : Saved) → Said-kept c name a → (Allowed name → ⊥) → a ≡ Err WrongName
      from a (wrong h) n = refl
      from a (fifth h u k) n = absurd (n (allowed name h))
      from a (done h r) n = absurd (n (allowed name h))

  pub wrong-returned : ((restore_of c e name).answer ≡ Err WrongName) ↔ (Allowed name → ⊥)
  wrong-returned = (to _ (said-returned c e name), from _ (said-returned c e name))
    where
      to : (a : Restored) → Said-returned c name a → a ≡ Err WrongName → Allowed name → ⊥
      to a (Said-returned.wrong h) q al = clash _ h (not-wrong name al)
      to a (unknown h u) q al = other-answer returned-number _ _ q λ z. omega arith
      to a (Said-returned.done h u) q al = other-answer returned-number _ _ q λ z. omega arith

      from : (a : Restored) → Said-returned c name a → (Allowed name → ⊥) → a ≡ Err WrongName
      from a (Said-returned.wrong h) n = refl
      from a (unknown h u) n = absurd (n (allowed name h))
      from a (Said-returned.done h u) n = absurd (n (allowed name h))

-- ─── Along a list ───

kept-along : (log buffer : List ℕ) (es : List RewindEvent) →
    let w = rewind_start log buffer in
    More (rewind_run w es).checkpoints [] (WasKept w es)
unfolding rewind_start
kept-along log buffer es = along (rewind_start log buffer) [] fresh-names es

module _ (log buffer : List ℕ) (es : List RewindEvent) (name : List ℕ) where
  abbrev w : RewindWorld
  w = rewind_start log buffer

  abbrev c : Checkpoints
  c = (rewind_run w es).checkpoints

  abbrev names : List (List ℕ)
  names = (kept-along log buffer es).names

  in_use : Names c names
  in_use = (kept-along log buffer es).these

  was-kept : (n : List ℕ) → In n names → WasKept w es n
  was-kept n p = go ((kept-along log buffer es).from n p)
    where
      go : In n [] ⊎ WasKept w es n → WasKept w es n
      go (inl q) = absurd q
      go (inr q) = q

  -- In use is what was kept.
  used-kept : wrong_name name ≡ false → is_used c name ≡ true → WasKept w es name
  used-kept a u = was-kept name (used-in c names in_use name a u)

  kept-used : WasKept w es name → is_used c name ≡ true
  kept-used k = is-used c names in_use name ((kept-along log buffer es).new name k)

  -- ─── 33, and taken ───

  pub return-unknown :
      ((returning (rewind_run w es) name).answer ≡ Err UnknownName) ↔ (Allowed name × (WasKept w es name → ⊥))
  return-unknown = (to _ (said-returned c _ name), from _ (said-returned c _ name))
    where
      to : (a : Restored) → Said-returned c name a → a ≡ Err UnknownName
          → Allowed name × (WasKept w es name → ⊥)
      to a (Said-returned.wrong h) q = absurd (other-answer returned-number _ _ q λ z. omega arith)
      to a (unknown h u) q = (allowed name h, λ k. clash _ (kept-used k) u)
      to a (Said-returned.done h u) q = absurd (other-answer returned-number _ _ q λ z. omega arith)

      from : (a : Restored) → Said-returned c name a → Allowed name × (WasKept w es name → ⊥)
          → a ≡ Err UnknownName
      from a (Said-returned.wrong h) p = clash _ h (not-wrong name p.0)
      from a (unknown h u) p = refl
      from a (Said-returned.done h u) p = absurd (p.1 (used-kept h u))

  pub return-known :
      (is_taken (restored_said (returning (rewind_run w es) name).answer) ≡ true) ↔ (Allowed name × WasKept w es name)
  return-known = (to _ (said-returned c _ name), from _ (said-returned c _ name))
    where
      to : (a : Restored) → Said-returned c name a → is_taken (restored_said a) ≡ true → Allowed name × WasKept w es name
      to a (Said-returned.wrong h) q = clash _ q refl
      to a (unknown h u) q = clash _ q refl
      to a (Said-returned.done h u) q = (allowed name h, used-kept h u)

      from : (a : Restored) → Said-returned c name a → Allowed name × WasKept w es name
          → is_taken (restored_said a) ≡ true
      from a (Said-returned.wrong h) p = clash _ h (not-wrong name p.0)
      from a (unknown h u) p = clash _ (kept-used p.1) u
      from a (Said-returned.done h u) p = refl

  -- ─── 32 ───

  four-others : wrong_name name ≡ false → is_used c name ≡ false → 4 ≤ c.count → FourOthers w es name
  four-others a u k =
      record {
        names = names;
        four = let n = names-count c names in_use in let f = in_use.four.few in omega arith;
        apart = ((λ p. clash _ (is-used c names in_use name p) u), in_use.apart);
        kept = was-kept;
      }

  others-fill : wrong_name name ≡ false → FourOthers w es name → (is_used c name ≡ false) × (4 ≤ c.count)
  others-fill a o = (free (is_used c name) refl, most)
    where
      inside : (n : List ℕ) → In n o.names → In n names
      inside n p = (kept-along log buffer es).new n (o.kept n p)

      most : 4 ≤ c.count
      most =
          let f = apart-few o.names names o.apart.1 inside in
          let n = names-count c names in_use in
          let four = o.four in
          omega arith

      with-name : In name names → (n : List ℕ) → In n (name ∷ o.names) → In n names
      with-name p n (inl q) = rw q p
      with-name p n (inr q) = inside n q

      free : (b : Bool) → is_used c name ≡ b → is_used c name ≡ false
      free true q =
          let p = used-in c names in_use name a q in
          let f = apart-few (name ∷ o.names) names o.apart (with-name p) in
          let n = names-count c names in_use in
          let few = in_use.four.few in
          let four = o.four in
          absurd (omega arith)
      free false q = q

  pub keep-fifth :
      ((keeping (rewind_run w es) name).answer ≡ Err FifthName) ↔ (Allowed name × FourOthers w es name)
  keep-fifth = (to _ (said-kept c _ name), from _ (said-kept c _ name))
    where
      to : (a : Saved) → Said-kept c name a → a ≡ Err FifthName → Allowed name × FourOthers w es name
      to a (wrong h) q = absurd (other-answer kept-number _ _ q λ z. omega arith)
      to a (fifth h u k) q = (allowed name h, four-others h u k)
      to a (done h r) q = absurd (other-answer kept-number _ _ q λ z. omega arith)

      from : (a : Saved) → Said-kept c name a → Allowed name × FourOthers w es name → a ≡ Err FifthName
      from a (wrong h) p = clash _ h (not-wrong name p.0)
      from a (fifth h u k) p = refl
      from a (done h r) p =
          let f = others-fill h p.1 in
          let k = r f.0 in
          let m = f.1 in
          absurd (omega arith)

-- ─── What a return clears ───

count-stays : (e : Receiver) (kept : Kept) → (restored e kept).kept.count ≡ e.kept.count
unfolding restored
count-stays e kept = refl

all-cleared : (e : Receiver) (kept : Kept) → (restored e kept).live.series ≡ replicate most_series no_live
unfolding restored
all-cleared e kept = refl

pub return-clears : (c : Checkpoints) (e : Receiver) (name : List ℕ)
    → is_taken (restored_said (restore_of c e name).answer) ≡ true →
    let v = (restore_of c e name).end in
    (v.kept.count ≡ e.kept.count)
    × (kept_series v ≡ kept_series e)
    × (v.live.series ≡ replicate most_series no_live)
return-clears c e name = go _ (restore-as c e name)
  where
    go : (r : Left Receiver Restored) → Restores-as c e name r → is_taken (restored_said r.answer) ≡ true
        → (r.end.kept.count ≡ e.kept.count)
        × (kept_series r.end ≡ kept_series e)
        × (r.end.live.series ≡ replicate most_series no_live)
    go r (Restores-as.refuses x) q = clash _ q refl
    go r (restores a u) q =
        (count-stays e (checkpoint_of c name), restored-series e (checkpoint_of c name), all-cleared e (checkpoint_of c name))
