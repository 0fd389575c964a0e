-- What the book shows, of what holds of it. Assumes nothing.
use Prim.Native.Nat.{ℕ, zero, suc, ◌<◌, ◌≤◌}
use mathlib.Core.Path.{◌≡◌, refl, sym, ap, ◌∙◌}
use mathlib.Core.List.{List, [], ◌∷◌}
use mathlib.Core.Bool.{Bool, true, false, cond, false≢true}
use native.Mathlib.Omega.{arith}
use borrow.Author.Tests.{ltb-true}
use lib.ListN.{get_or}
use lib.IntN.{ℤ, pos}
use lib.Signed.{lt_z}
use Rattle.book.specs.declared.levels.Level.{Level}
use Rattle.book.specs.declared.levels.Side.{Side}
use Rattle.book.specs.declared.event.Event.{Event}
use Rattle.book.specs.declared.calls.Book.{Book}
use Rattle.book.specs.Levels.{empty, used, better, same_price, level_in}
use Rattle.book.specs.Calls.{fresh_book, level_of, book_mean}
use Rattle.book.specs.Agreement.{quantity_of, world, after, Shows, BookAgreement}
use Rattle.book.proofs.levels.Search.{level-behind}
use Rattle.book.proofs.agreement.Prices.{same-equal, same_self, better-other}
use Rattle.book.proofs.agreement.Ranked.{Behind, Ranked, look}
use Rattle.book.proofs.agreement.Events.{SideHolds, Holds}
use Rattle.book.proofs.agreement.Calls.{started-holds, after_holds}
use Rattle.std.specs.Prelude.{None}
use Rattle.book.specs.Types.{some_level}

-- ─── The places of a ranked list ───

pub behind-at : (s : Bool) (x : Level) (l : List Level) (i : ℕ) → Behind s x l → used (get_or l i empty) ≡ true
    → (used x ≡ true) × (better s x.price (get_or l i empty).price ≡ true)
behind-at s x [] i b u = absurd (false≢true u)
behind-at s x (m ∷ ms) zero b u = b.0 u
behind-at s x (m ∷ ms) (suc i) b u = behind-at s x ms i b.1 u

-- What is listed is the quantity at its price.
look_at : (s : Bool) (l : List Level) (i : ℕ) → Ranked s l → used (get_or l i empty) ≡ true
    → look (get_or l i empty).price l ≡ (get_or l i empty).quantity
look_at s [] i r u = absurd (false≢true u)
look_at s (m ∷ ms) zero r u = rw (same_self m.price, u)
look_at s (m ∷ ms) (suc i) r u =
    rw (better-other s m.price (get_or ms i empty).price (behind-at s m ms i r.0 u).1) (look_at s ms i r.1 u)

-- A quantity above zero stands at some place.
look-found : (p : ℤ) (l : List Level) → 0 < look p l
    → (i : ℕ) × (used (get_or l i empty) ≡ true) × ((get_or l i empty).price ≡ p) × ((get_or l i empty).quantity ≡ look p l)
look-found p [] h = absurd (omega arith)
look-found p (m ∷ ms) h = go (look-found p ms) (same_price m.price p) refl (used m) refl h
  where
    go : (0 < look p ms
        → (i : ℕ) × (used (get_or ms i empty) ≡ true) × ((get_or ms i empty).price ≡ p) × ((get_or ms i empty).quantity ≡ look p ms))
        → (t : Bool) → same_price m.price p ≡ t → (u : Bool) → used m ≡ u
        → 0 < look p (m ∷ ms)
        → (i : ℕ) × (used (get_or (m ∷ ms) i empty) ≡ true) × ((get_or (m ∷ ms) i empty).price ≡ p)
        × ((get_or (m ∷ ms) i empty).quantity ≡ look p (m ∷ ms))
    go rest true f true g k = (0, g, same-equal m.price p f, rw (f, g))
    go rest true f false g k =
        let e : look p (m ∷ ms) ≡ look p ms = rw (f, g) in
        let x = rest (omega arith) in
        (suc x.0, x.1, x.2, x.3 ∙ sym e)
    go rest false f u g k =
        let e : look p (m ∷ ms) ≡ look p ms = rw f in
        let x = rest (omega arith) in
        (suc x.0, x.1, x.2, x.3 ∙ sym e)

-- In order, without a gap.
ranked-at : (s : Bool) (l : List Level) (i j : ℕ) → Ranked s l → i < j → used (get_or l j empty) ≡ true
    → (used (get_or l i empty) ≡ true) × (better s (get_or l i empty).price (get_or l j empty).price ≡ true)
ranked-at s [] i j r h u = absurd (false≢true u)
ranked-at s (m ∷ ms) i zero r h u = absurd (omega arith)
ranked-at s (m ∷ ms) zero (suc j) r h u = behind-at s m ms j r.0 u
ranked-at s (m ∷ ms) (suc i) (suc j) r h u = ranked-at s ms i j r.1 (omega arith) u

-- ─── A side ───

module _ (side : Side) (i : ℕ) where
  is-listed : (p : ℤ) (n : ℕ) → level_in side i ≡ some_level p n
      → (used (get_or side.levels i empty) ≡ true) × ((get_or side.levels i empty).price ≡ p)
      × ((get_or side.levels i empty).quantity ≡ n)
  unfolding level_in
  is-listed p n e = go (used (get_or side.levels i empty)) refl e
    where
      go : (u : Bool) → used (get_or side.levels i empty) ≡ u
          → cond u (some_level (get_or side.levels i empty).price (get_or side.levels i empty).quantity) None ≡ some_level p n
          → (used (get_or side.levels i empty) ≡ true) × ((get_or side.levels i empty).price ≡ p)
          × ((get_or side.levels i empty).quantity ≡ n)
      go true u q =
          let a : (get_or side.levels i empty).price ≡ p = cc in
          let b : (get_or side.levels i empty).quantity ≡ n = cc in
          (u, a, b)
      go false u q = absurd (let z : ◌≡◌ {A = ℕ} 0 1 = cc in omega arith)

  lists : used (get_or side.levels i empty) ≡ true
      → level_in side i ≡ some_level (get_or side.levels i empty).price (get_or side.levels i empty).quantity
  unfolding level_in
  lists u = rw u

pos-same : (a b : ℕ) → pos a ≡ pos b → a ≡ b
pos-same a b e = cc

module _ (s : Bool) (side : Side) (es : List Event) (h : SideHolds s side es) where
  side-listed : (i : ℕ) (p : ℤ) (n : ℕ) → level_in side i ≡ some_level p n → (quantity_of es s p ≡ pos n) × (0 < n)
  side-listed i p n e =
      let x = is-listed side i p n e in
      let k : look p side.levels ≡ n = (rw x.1 at (look_at s side.levels i h.ranked x.0)) ∙ x.2 in
      (h.quantities p ∙ ap pos k, rw x.2 at (ltb-true 0 (get_or side.levels i empty).quantity x.0))

  side-all : (p : ℤ) (n : ℕ) → quantity_of es s p ≡ pos n → 0 < n → (i : ℕ) × (level_in side i ≡ some_level p n)
  side-all p n e k =
      let q : look p side.levels ≡ n = pos-same (look p side.levels) n (sym (h.quantities p) ∙ e) in
      let x = look-found p side.levels (rw q k) in
      (x.0, lists side x.0 x.1 ∙ (rw (x.2, x.3, q)))

  side-ordered : (i j : ℕ) (p : ℤ) (n : ℕ) → i < j → level_in side j ≡ some_level p n
      → (r : ℤ) × (m : ℕ) × (level_in side i ≡ some_level r m) × (better s r p ≡ true)
  side-ordered i j p n k e =
      let x = is-listed side j p n e in
      let y = ranked-at s side.levels i j h.ranked k x.0 in (
        (get_or side.levels i empty).price,
        (get_or side.levels i empty).quantity,
        lists side i y.0,
        rw x.1 at y.1,
      )

  side-few : (i : ℕ) → 64 ≤ i → level_in side i ≡ None
  side-few i k = sym (level-behind side i (rw h.places k))

-- ─── The book ───

module _ (b : Book) (es : List Event) (h : Holds b es) where
  book-listed : (buying : Bool) (i : ℕ) (p : ℤ) (n : ℕ) → level_of b buying i ≡ some_level p n
      → (quantity_of es buying p ≡ pos n) × (0 < n)
  unfolding level_of
  book-listed true = side-listed true b.buying es h.buying
  book-listed false = side-listed false b.selling es h.selling

  book-all : (buying : Bool) (p : ℤ) (n : ℕ) → quantity_of es buying p ≡ pos n → 0 < n
      → (i : ℕ) × (level_of b buying i ≡ some_level p n)
  unfolding level_of
  book-all true = side-all true b.buying es h.buying
  book-all false = side-all false b.selling es h.selling

  book-quantities : (buying : Bool) (p : ℤ) → (n : ℕ) × (quantity_of es buying p ≡ pos n)
  book-quantities true p = (look p b.buying.levels, h.buying.quantities p)
  book-quantities false p = (look p b.selling.levels, h.selling.quantities p)

  from-highest : (i j : ℕ) (p : ℤ) (n : ℕ) → i < j → level_of b true j ≡ some_level p n
      → (r : ℤ) × (m : ℕ) × (level_of b true i ≡ some_level r m) × (lt_z p r ≡ true)
  unfolding level_of better
  from-highest = side-ordered true b.buying es h.buying

  from_lowest : (i j : ℕ) (p : ℤ) (n : ℕ) → i < j → level_of b false j ≡ some_level p n
      → (r : ℤ) × (m : ℕ) × (level_of b false i ≡ some_level r m) × (lt_z r p ≡ true)
  unfolding level_of better
  from_lowest = side-ordered false b.selling es h.selling

  book-few : (buying : Bool) (i : ℕ) → 64 ≤ i → level_of b buying i ≡ None
  unfolding level_of
  book-few true = side-few true b.buying es h.buying
  book-few false = side-few false b.selling es h.selling

  pub shown : Shows b es
  unfolding book_mean
  shown = record {
    listed = book-listed;
    all = book-all;
    quantities = book-quantities;
    from_highest = from-highest;
    from_lowest = from_lowest;
    few = book-few;
    mean = rw (h.turnover, h.volume);
  }

pub book-agreement : BookAgreement
book-agreement = record {
  shows = λ calls.
      shown (after (world fresh_book []) calls).book (after (world fresh_book []) calls).taken
      (after_holds calls (world fresh_book []) (started-holds _));
}
