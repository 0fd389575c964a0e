-- What two values that are there have in common: equal, they hold the same.
use Rattle.std.specs.Prelude.{ℕ, Bool, ◌≡◌, Option, Some, None}
use mathlib.Core.Path.{ap}
use Rattle.ftd.specs.Types.{some_signed, some_item}
use Rattle.ftd.specs.declared.signed.Signed.{Signed}
use Rattle.ftd.specs.declared.places.ItemPlace.{ItemPlace}

abbrev held : {A : Type 0} → A → Option A → A
held d None = d
held d (Some x) = x

pub some-same : {A : Type 0} (x y : A) → Some x ≡ Some y → x ≡ y
some-same x y e = ap (λ (o : Option _). held x o) e

pub same-signed : (a b : Bool) (m n : ℕ) → some_signed a m ≡ some_signed b n → (a ≡ b) × (m ≡ n)
same-signed a b m n e =
    let s = some-same _ _ e in
    (ap (λ (v : Signed). v.negative) s, ap (λ (v : Signed). v.units) s)

pub same-item : (a b : ℕ) (k s t w : ℕ) (l u : ℕ) → some_item a k s t ≡ some_item b w l u
    → (a ≡ b) × (k ≡ w) × (s ≡ l) × (t ≡ u)
same-item a b k s t w l u e =
    let s = some-same _ _ e in (
      ap (λ (p : ItemPlace). p.kind) s,
      ap (λ (p : ItemPlace). p.scale) s,
      ap (λ (p : ItemPlace). p.start) s,
      ap (λ (p : ItemPlace). p.width) s,
    )
