-- A receiving end fresh, opened and connected: what is looked up in it. Assumes nothing.
use Prim.Native.Nat.{ℕ, zero, suc, ◌-◌}
use native.Mathlib.Omega.{arith}
use mathlib.Core.Path.{◌≡◌, refl, ap, ◌∙◌}
use mathlib.Core.List.{List, [], ◌∷◌, ◌++◌, map}
use mathlib.Core.Bool.{false, not, ◌||◌}
use borrow.Author.Tests.{ltb-false}
use lib.ListN.{length, get_or, replicate, length-append, length-replicate, length-map}
use lib.Seq.{take_at}
use lib.Dec.{ltb, eqb}
use Rattle.flow.specs.declared.receiver.KeptSeries.{KeptSeries}
use Rattle.flow.specs.declared.receiver.Receiver.{Receiver}
use Rattle.flow.specs.Ends.{member, index_of, differing, most_series, wrong_series, new_kept, no_live, fresh_receiver}
use Rattle.flow.specs.Ends.{kept_series, is_open, kept_of, live_of, receiver, filled}
use Rattle.flow.specs.Receiving.{connect_of}
use Rattle.flow.proofs.common.Bools.{or-neither}
use Rattle.flow.proofs.ends.ReceiverLookups.{Eight}
use Rattle.std.specs.Prelude.{None}

-- The end with these series open.
abbrev pub opened_with : List ℕ → Receiver
opened_with ss = receiver (length ss) (filled (new_kept 0) (map new_kept ss)) (replicate most_series no_live)

-- ─── Fresh, opened, connected ───

get_d-same : {A : Type 0} (n i : ℕ) (a : A) → get_or (replicate n a) i a ≡ a
get_d-same zero i a = refl
get_d-same (suc n) zero a = refl
get_d-same (suc n) (suc i) a = get_d-same n i a

pub fresh-eight : Eight fresh_receiver
unfolding fresh_receiver
fresh-eight = record { kept = refl; live = refl }

pub fresh-closed : (s : ℕ) → is_open fresh_receiver s ≡ false
unfolding fresh_receiver is_open kept_series
fresh-closed s = refl

-- An end with no series has none open.
pub none_open : (e : Receiver) → e.kept.count ≡ 0 → (s : ℕ) → is_open e s ≡ false
unfolding is_open kept_series
none_open e h s = rw h

module _ (ss : List ℕ) where
  names-new : (l : List ℕ) → map (λ (x : KeptSeries). x.series) (map new_kept l) ≡ l
  names-new [] = refl
  names-new (x ∷ l) = ap (λ (r : List ℕ). x ∷ r) (names-new l)

  pub opened-series : kept_series (opened_with ss) ≡ ss
  unfolding kept_series
  opened-series =
      ap (map (λ (x : KeptSeries). x.series))
      (take_at (map new_kept ss) (replicate (most_series - length (map new_kept ss)) (new_kept 0)) (length ss)
      (length-map ss new_kept))
      ∙ names-new ss

  new-at : (l : List ℕ) (n i : ℕ) → ((get_or (map new_kept l ++ replicate n (new_kept 0)) i (new_kept 0)).date ≡ None)
      × ((get_or (map new_kept l ++ replicate n (new_kept 0)) i (new_kept 0)).last ≡ 0)
  new-at [] n i =
      let q = get_d-same n i (new_kept 0) in (ap (λ (x : KeptSeries). x.date) q, ap (λ (x : KeptSeries). x.last) q)
  new-at (x ∷ l) n zero = (refl, refl)
  new-at (x ∷ l) n (suc i) = new-at l n i

  -- No day is kept of any series, and no number.
  pub opened-kept : (s : ℕ) → ((kept_of (opened_with ss) s).date ≡ None) × ((kept_of (opened_with ss) s).last ≡ 0)
  unfolding kept_of
  opened-kept s = new-at ss (most_series - length (map new_kept ss)) (index_of s (kept_series (opened_with ss)))

  pub opened-live : (s : ℕ) → live_of (opened_with ss) s ≡ no_live
  unfolding live_of
  opened-live s = get_d-same 8 (index_of s (kept_series (opened_with ss))) no_live

  pub opened-eight : wrong_series ss ≡ false → Eight (opened_with ss)
  unfolding wrong_series
  opened-eight h =
      let a = eqb (length ss) 0 in
      let b = ltb most_series (length ss) in
      let x = or-neither (a || b || member 0 ss) (not (differing ss)) h in
      let y = or-neither (a || b) (member 0 ss) x.0 in
      let n = ltb-false most_series (length ss) (or-neither a b y.0).1 in
      record {
        kept =
            length-append (map new_kept ss) (replicate (most_series - length (map new_kept ss)) (new_kept 0))
            ∙ rw (length-replicate, length-map ss new_kept) (omega arith);
        live = refl;
      }

-- Connect keeps what is kept.
module _ (e : Receiver) where
  pub connect-open : (s : ℕ) → is_open (connect_of e) s ≡ is_open e s
  unfolding connect_of is_open kept_series
  connect-open s = refl

  pub connect-kept : (s : ℕ) → kept_of (connect_of e) s ≡ kept_of e s
  unfolding connect_of kept_of kept_series
  connect-kept s = refl

  pub connect-live : (s : ℕ) → live_of (connect_of e) s ≡ no_live
  unfolding connect_of live_of
  connect-live s = get_d-same 8 (index_of s (kept_series (connect_of e))) no_live

  pub connect-eight : Eight e → Eight (connect_of e)
  unfolding connect_of
  connect-eight h = record { kept = h.kept; live = refl }
