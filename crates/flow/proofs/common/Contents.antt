-- Rows 7 to 10 of content that is given to a call: the content check of ftd decides all four. Assumes nothing.
use Prim.Native.Nat.{ℕ, ◌≤◌}
use mathlib.Core.Path.{◌≡◌, refl, sym, ap, ◌∙◌}
use mathlib.Core.List.{List, [], ◌∷◌}
use mathlib.Core.Bool.{Bool, true, false, cond, not}
use lib.ListN.{length}
use Rattle.ftd.specs.Fields.{fields_of, fid_of, bytes_of, shaped}
use Rattle.ftd.specs.Table.{rows_of}
use Rattle.ftd.specs.Items.{wrong_width, wrong_item, items_good, walk_fields, walk_of, is_refused, check_of}
use Rattle.ftd.specs.Composition.{composed}
use Rattle.ftd.specs.Content.{passed_then, content_check}
use Rattle.ftd.specs.declared.refusal.Refusal.{Refusal}
use Rattle.ftd.specs.declared.refusal.Refusal.TheVariants.{FieldRun, FieldLength, Item, Composition}
use Rattle.ftd.specs.declared.composition.Direction.{Direction}
use Rattle.ftd.specs.Types.{Checked}
use Rattle.ftd.proofs.chain.Pieces.{shaped-facts}
use Rattle.flow.specs.Ends.{◌when◌else◌}
use Rattle.flow.specs.Serving.{wrong_run}
use Rattle.std.specs.Prelude.{Ok, Err}

-- What a check's answer makes of a call: refused, or what comes behind.
abbrev pub on_check : {A : Type 0} → (Refusal → A) → A → Checked → A
on_check f y (Ok tt) = y
on_check f y (Err r) = f r

-- The walk over the items refuses with 9 alone.
walk-item : (fs : List (List ℕ)) → walk_fields fs ≡ cond (is_refused (walk_fields fs)) (Err Item) (Ok tt)
walk-item [] = refl
walk-item (f ∷ fs) = go (items_good (rows_of (fid_of f)) (bytes_of f)) (walk-item fs)
  where
    go : (b : Bool) → walk_fields fs ≡ cond (is_refused (walk_fields fs)) (Err Item) (Ok tt)
        → cond b (walk_fields fs) (Err Item)
        ≡ cond (is_refused (cond b (walk_fields fs) (Err Item))) (Err Item) (Ok tt)
    go true h = h
    go false h = refl

walk-wrong : (content : List ℕ) → walk_of content ≡ cond (wrong_item content) (Err Item) (Ok tt)
unfolding walk_of wrong_item
walk-wrong content = walk-item (fields_of content)

module _ (tid : ℕ) (d : Direction) (content : List ℕ) (limit : ℕ) where
  pub content-rows : {A : Type 0} (f : Refusal → A) (y : A)
      → (f FieldRun when wrong_run content limit else
      f FieldLength when wrong_width content else
      f Item when wrong_item content else
      f Composition when not (composed tid d content) else
      y)
      ≡ on_check f y (content_check tid d content limit)
  unfolding content_check check_of
  content-rows f y =
      rw (walk-wrong content)
      (go (shaped content limit) (wrong_width content) (wrong_item content) (composed tid d content))
    where
      go : (a w i c : Bool)
          → (f FieldRun when not a else f FieldLength when w else f Item when i else f Composition when not c else y)
          ≡ on_check f y
          (cond a
          (passed_then (cond w (Err FieldLength) (cond i (Err Item) (Ok tt)))
          (cond c (Ok tt) (Err Composition)))
          (Err FieldRun))
      go false w i c = refl
      go true true i c = refl
      go true false true c = refl
      go true false false true = refl
      go true false false false = refl

  -- What passed is whole fields, and has at most as many bytes as the limit.
  pub content-shaped : content_check tid d content limit ≡ (Ok tt) → shaped content limit ≡ true
  unfolding content_check
  content-shaped h = go (shaped content limit) refl h
    where
      go : (a : Bool) → shaped content limit ≡ a
          → cond a (passed_then (check_of content) (cond (composed tid d content) (Ok tt) (Err Composition)))
          (Err FieldRun)
          ≡ (Ok tt) → shaped content limit ≡ true
      go true p h = p
      go false p h = p ∙ sym (ap is_refused h)

  pub content-length : content_check tid d content limit ≡ (Ok tt) → length content ≤ limit
  content-length h = (shaped-facts content limit (shaped content limit) refl (content-shaped h)).0
