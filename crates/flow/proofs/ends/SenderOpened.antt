-- The serving end fresh and right behind an opening: nothing is published and no one logged in. Assumes nothing.
use Prim.Native.Nat.{ℕ, zero, suc, ◌-◌, ◌≤◌}
use native.Mathlib.Omega.{arith}
use mathlib.Core.Path.{◌≡◌, refl, ap, ◌∙◌}
use mathlib.Core.List.{List, [], ◌∷◌, ◌++◌, map}
use mathlib.Core.Bool.{false, not, ◌||◌}
use borrow.Author.Tests.{ltb-false}
use lib.ListN.{length, get_or, take, replicate, length-append, length-replicate}
use lib.Seq.{take_at}
use lib.Dec.{ltb, eqb}
use Rattle.flow.specs.declared.sender.DaySeries.{DaySeries}
use Rattle.flow.specs.declared.sender.Sender.{Sender}
use Rattle.flow.specs.Ends.{most_series, member, index_of, differing, wrong_series, filled, no_series, opened_series, no_place}
use Rattle.flow.specs.Ends.{sender, fresh_sender, day_series, published_of, place_of}
use Rattle.flow.proofs.common.Bools.{or-neither}
use Rattle.flow.proofs.ends.SenderLookups.{Eight}
use Rattle.std.specs.Prelude.{Some}

-- What an opening leaves.
abbrev pub opened_sender : ℕ → List ℕ → List ℕ → Sender
opened_sender date ss rs =
    sender (Some date) (length ss) (filled no_series (opened_series ss rs)) 0 (replicate most_series no_place)

-- ─── Fresh ───

pub fresh-eight : Eight fresh_sender
unfolding fresh_sender
fresh-eight = record { series = refl; places = refl }

-- ─── Opened ───

numbers-back : (ss rs : List ℕ) → map (λ (x : DaySeries). x.series) (opened_series ss rs) ≡ ss
numbers-back [] rs = refl
numbers-back (s ∷ ss) [] = ap (λ (l : List ℕ). s ∷ l) (numbers-back ss [])
numbers-back (s ∷ ss) (r ∷ rs) = ap (λ (l : List ℕ). s ∷ l) (numbers-back ss rs)

pub opened-long : (ss rs : List ℕ) → length (opened_series ss rs) ≡ length ss
opened-long [] rs = refl
opened-long (s ∷ ss) [] = ap suc (opened-long ss [])
opened-long (s ∷ ss) (r ∷ rs) = ap suc (opened-long ss rs)

-- Those in use are the opening's.
pub opened-taken : (ss rs : List ℕ) → take (length ss) (filled no_series (opened_series ss rs)) ≡ opened_series ss rs
opened-taken ss rs =
    take_at (opened_series ss rs) (replicate (most_series - length (opened_series ss rs)) no_series) (length ss)
    (opened-long ss rs)

pub opened-series : (date : ℕ) (ss rs : List ℕ) → day_series (opened_sender date ss rs) ≡ ss
unfolding day_series
opened-series date ss rs = ap (map (λ (x : DaySeries). x.series)) (opened-taken ss rs) ∙ numbers-back ss rs

none-published : (ss rs : List ℕ) (n i : ℕ) → (get_or (opened_series ss rs ++ replicate n no_series) i
    no_series).published ≡ 0
none-published [] rs zero i = refl
none-published [] rs (suc n) zero = refl
none-published [] rs (suc n) (suc i) = none-published [] rs n i
none-published (s ∷ ss) [] n zero = refl
none-published (s ∷ ss) [] n (suc i) = none-published ss [] n i
none-published (s ∷ ss) (r ∷ rs) n zero = refl
none-published (s ∷ ss) (r ∷ rs) n (suc i) = none-published ss rs n i

pub opened-published : (date : ℕ) (ss rs : List ℕ) (s : ℕ) → published_of (opened_sender date ss rs) s ≡ 0
unfolding published_of
opened-published date ss rs s =
    none-published ss rs (most_series - length (opened_series ss rs)) (index_of s (day_series (opened_sender date ss rs)))

no-login : (n i : ℕ) → get_or (replicate n no_place) i no_place ≡ no_place
no-login zero i = refl
no-login (suc n) zero = refl
no-login (suc n) (suc i) = no-login n i

pub opened-place : (date : ℕ) (ss rs : List ℕ) (s : ℕ) → place_of (opened_sender date ss rs) s ≡ no_place
unfolding place_of
opened-place date ss rs s = no-login most_series (index_of s (day_series (opened_sender date ss rs)))

pub opened-eight : (date : ℕ) (ss rs : List ℕ) → wrong_series ss ≡ false → Eight (opened_sender date ss rs)
unfolding wrong_series
opened-eight date ss rs h =
    let a = or-neither (eqb (length ss) 0 || ltb most_series (length ss) || member 0 ss) (not (differing ss)) h in
    let b = or-neither (eqb (length ss) 0 || ltb most_series (length ss)) (member 0 ss) a.0 in
    let c = or-neither (eqb (length ss) 0) (ltb most_series (length ss)) b.0 in
    let few : length ss ≤ 8 = ltb-false most_series (length ss) c.1 in
    let n = opened-long ss rs in
    record { series = simp (length-append, length-replicate) (omega arith); places = refl }
