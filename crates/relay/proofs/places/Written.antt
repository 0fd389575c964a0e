-- The seats' numbers read and written: one place written changes one place of one seat. Assumes nothing.
use Prim.Native.Nat.{ℕ, zero, suc, ◌+◌, ◌*◌, ◌<◌, ◌≤◌}
use native.Mathlib.Omega.{arith}
use mathlib.Core.Path.{◌≡◌, refl, ap, ◌∙◌}
use mathlib.Core.List.{List, [], ◌∷◌}
use mathlib.Core.Bool.{Bool, true, false, not}
use mathlib.Core.Logic.{◌⊎◌, inl, inr}
use lib.ListN.{length, get_or, set, replicate, length-set}
use lib.Seq.{get_or-set_same, get_or-set_other}
use lib.Dec.{eqb}
use Rattle.flow.specs.declared.sender.Place.{Place}
use Rattle.flow.specs.declared.sender.Seat.{Seat}
use Rattle.relay.specs.State.{place_for, places_from, seat_for, seats_from, seats_for, flag_of, place_set, place_start}
use Rattle.relay.specs.State.{place_written, no_numbers}
use Rattle.relay.specs.Box.{no_seat}
use Rattle.flow.specs.Ends.{no_place, fresh_sender}

-- ─── A place ───

flag-back : (b : Bool) → not (eqb (flag_of b) 0) ≡ b
flag-back true = refl
flag-back false = refl

place_is : (a b c : ℕ) (p : Place) → a ≡ flag_of p.login → b ≡ p.next → c ≡ p.piece
    → ◌≡◌ {A = Place} (record { login = not (eqb a 0); next = b; piece = c }) p
place_is a b c p x y z = rw (x, y, z, flag-back p.login) refl

place_same : (a b c x y z : ℕ) → a ≡ x → b ≡ y → c ≡ z
    → ◌≡◌ {A = Place} (record { login = not (eqb a 0); next = b; piece = c })
    (record { login = not (eqb x 0); next = y; piece = z })
place_same a b c x y z p q r = rw (p, q, r) refl

module _ (ns : List ℕ) (at : ℕ) (p : Place) (h : at + 3 ≤ length ns) where
  abbrev after : List ℕ
  after = place_set ns at p

  abbrev first : List ℕ
  first = set ns at (flag_of p.login)

  abbrev second : List ℕ
  second = set first (at + 1) p.next

  pub place_here : place_for after at ≡ p
  place_here =
      place_is (get_or after at 0) (get_or after (at + 1) 0) (get_or after (at + 2) 0) p
      (get_or-set_other second (at + 2) at p.piece 0 (λ e. omega arith)
      ∙ get_or-set_other first (at + 1) at p.next 0 (λ e. omega arith)
      ∙ get_or-set_same ns at (flag_of p.login) 0 (omega arith))
      (get_or-set_other second (at + 2) (at + 1) p.piece 0 (λ e. omega arith)
      ∙ get_or-set_same first (at + 1) p.next 0 (rw (length-set ns at (flag_of p.login)) (omega arith)))
      (get_or-set_same second (at + 2) p.piece 0
      (rw (length-set first (at + 1) p.next, length-set ns at (flag_of p.login)) (omega arith)))

  pub number-away : (k : ℕ) → k < at ⊎ at + 3 ≤ k → get_or after k 0 ≡ get_or ns k 0
  number-away k (inl q) =
      get_or-set_other second (at + 2) k p.piece 0 (λ e. omega arith)
      ∙ get_or-set_other first (at + 1) k p.next 0 (λ e. omega arith)
      ∙ get_or-set_other ns at k (flag_of p.login) 0 (λ e. omega arith)
  number-away k (inr q) =
      get_or-set_other second (at + 2) k p.piece 0 (λ e. omega arith)
      ∙ get_or-set_other first (at + 1) k p.next 0 (λ e. omega arith)
      ∙ get_or-set_other ns at k (flag_of p.login) 0 (λ e. omega arith)

  pub place-away : (n : ℕ) → n + 3 ≤ at ⊎ at + 3 ≤ n → place_for after n ≡ place_for ns n
  place-away n (inl q) =
      place_same _ _ _ _ _ _ (number-away n (inl (omega arith))) (number-away (n + 1) (inl (omega arith)))
      (number-away (n + 2) (inl (omega arith)))
  place-away n (inr q) =
      place_same _ _ _ _ _ _ (number-away n (inr (omega arith))) (number-away (n + 1) (inr (omega arith)))
      (number-away (n + 2) (inr (omega arith)))

  -- ─── A seat ───

  pub places-away : (k n : ℕ) → n + 3 * k ≤ at ⊎ at + 3 ≤ n → places_from after k n ≡ places_from ns k n
  places-away zero n q = refl
  places-away (suc k) n (inl q) =
      rw (place-away n (inl (omega arith)), places-away k (n + 3) (inl (omega arith))) refl
  places-away (suc k) n (inr q) =
      rw (place-away n (inr q), places-away k (n + 3) (inr (omega arith))) refl

  pub places-here : (k n j : ℕ) → j < k → at ≡ n + 3 * j → places_from after k n ≡ set (places_from ns k n) j p
  places-here zero n j q e = absurd (omega arith)
  places-here (suc k) n zero q e =
      let a : at ≡ n = omega arith in
      rw (← a, place_here, places-away k (at + 3) (inr (omega arith))) refl
  places-here (suc k) n (suc j) q e =
      rw (place-away n (inl (omega arith)), places-here k (n + 3) j (omega arith) (omega arith)) refl

  -- ─── All seats ───

  seat-same : (n : ℕ) → n + 24 ≤ at ⊎ at + 3 ≤ n → seat_for after n ≡ seat_for ns n
  seat-same n q = rw (places-away 8 n q) refl

  pub seats-away : (k n : ℕ) → n + 24 * k ≤ at ⊎ at + 3 ≤ n → seats_from after k n ≡ seats_from ns k n
  seats-away zero n q = refl
  seats-away (suc k) n (inl q) =
      rw (seat-same n (inl (omega arith)), seats-away k (n + 24) (inl (omega arith))) refl
  seats-away (suc k) n (inr q) =
      rw (seat-same n (inr q), seats-away k (n + 24) (inr (omega arith))) refl

  abbrev as_seat : List Place → Seat
  as_seat l = record { places = l }

  -- Seat i with the place at j as it was written.
  abbrev seated : ℕ → ℕ → Seat
  seated n j = record { places = set (seat_for ns n).places j p }

  pub seats-here : (k n i j m : ℕ) → i < k → j < 8 → m ≡ n + 24 * i → at ≡ m + 3 * j
      → seats_from after k n ≡ set (seats_from ns k n) i (seated m j)
  seats-here zero n i j m q r d e = absurd (omega arith)
  seats-here (suc k) n zero j m q r d e =
      let z : n ≡ m = omega arith in
      ap (λ (l : List Place). as_seat l ∷ seats_from after k (n + 24))
      (places-here 8 n j r (omega arith))
      ∙ ap (λ (l : List Seat). seated n j ∷ l) (seats-away k (n + 24) (inr (omega arith)))
      ∙ ap (λ (x : ℕ). seated x j ∷ seats_from ns k (n + 24)) z
  seats-here (suc k) n (suc i) j m q r d e =
      ap (λ (x : Seat). x ∷ seats_from after k (n + 24)) (seat-same n (inl (omega arith)))
      ∙ ap (λ (l : List Seat). seat_for ns n ∷ l) (seats-here k (n + 24) i j m (omega arith) r (omega arith) e)

-- ─── Read ───

seats-read : (ns : List ℕ) (d : Seat) (k n i : ℕ) → i < k → get_or (seats_from ns k n) i d ≡ seat_for ns (n + 24 * i)
seats-read ns d zero n i q = absurd (omega arith)
seats-read ns d (suc k) n zero q = ap (seat_for ns) (omega arith)
seats-read ns d (suc k) n (suc i) q = seats-read ns d k (n + 24) i (omega arith) ∙ ap (seat_for ns) (omega arith)

pub seat-read : (ns : List ℕ) (d : Seat) (i : ℕ) → i < 16 → get_or (seats_for ns) i d ≡ seat_for ns (24 * i)
unfolding seats_for
seat-read ns d i q = seats-read ns d 16 0 i q ∙ ap (seat_for ns) (omega arith)

seats-many : (ns : List ℕ) (k n : ℕ) → length (seats_from ns k n) ≡ k
seats-many ns zero n = refl
seats-many ns (suc k) n = ap suc (seats-many ns k (n + 24))

pub sixteen : (ns : List ℕ) → length (seats_for ns) ≡ 16
unfolding seats_for
sixteen ns = seats-many ns 16 0

-- ─── One place of one seat written ───

pub seat-written : (ns : List ℕ) (i j : ℕ) (p : Place) → length ns ≡ 384 → i < 16 → j < 8
    → seats_for (place_written ns i j p)
    ≡ set (seats_for ns) i (record { places = set (seat_for ns (24 * i)).places j p })
unfolding seats_for
seat-written ns i j p h q r = seats-here ns (place_start i j) p (omega arith) 16 0 i j (24 * i) q r (omega arith) refl

-- ─── The code's forms ───

pub eight-places : (ns : List ℕ) (at : ℕ) (p q r s t u v w : Place)
    → p ≡ place_for ns at → q ≡ place_for ns (at + 3) → r ≡ place_for ns (at + 6) → s ≡ place_for ns (at + 9)
    → t ≡ place_for ns (at + 12) → u ≡ place_for ns (at + 15) → v ≡ place_for ns (at + 18) → w ≡ place_for ns (at + 21)
    → ◌≡◌ {A = Seat} (record { places = p ∷ q ∷ r ∷ s ∷ t ∷ u ∷ v ∷ w ∷ [] }) (seat_for ns at)
eight-places ns at p q r s t u v w a b c d e f g h =
    let x : at + 3 + 3 ≡ at + 6 = omega arith in
    let y : at + 6 + 3 ≡ at + 9 = omega arith in
    let z : at + 9 + 3 ≡ at + 12 = omega arith in
    let k : at + 12 + 3 ≡ at + 15 = omega arith in
    let l : at + 15 + 3 ≡ at + 18 = omega arith in
    let m : at + 18 + 3 ≡ at + 21 = omega arith in
    rw (a, b, c, d, e, f, g, h, x, y, z, k, l, m) refl

-- ─── Nobody is logged in ───

zero_in : (k n : ℕ) → get_or {A = ℕ} (replicate k 0) n 0 ≡ 0
zero_in zero n = refl
zero_in (suc k) zero = refl
zero_in (suc k) (suc n) = zero_in k n

none-at : (k n : ℕ) → place_for (replicate k 0) n ≡ no_place
none-at k n = rw (zero_in k n, zero_in k (n + 1), zero_in k (n + 2)) refl

none_from : (m k n : ℕ) → places_from (replicate m 0) k n ≡ replicate k no_place
none_from m zero n = refl
none_from m (suc k) n = rw (none-at m n, none_from m k (n + 3)) refl

abbrev unseated : Seat
unseated = record { places = replicate 8 no_place }

none-seats : (m k n : ℕ) → seats_from (replicate m 0) k n ≡ replicate k unseated
none-seats m zero n = refl
none-seats m (suc k) n = rw (none_from m 8 n, none-seats m k (n + 24)) refl

pub no-seats : seats_for no_numbers ≡ replicate 16 no_seat
unfolding seats_for fresh_sender
no-seats = none-seats 384 16 0
