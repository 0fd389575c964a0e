-- The content check of three parts, of which the first two are whole fields, over plain variables. Assumes nothing.
use Prim.Native.Nat.{ℕ, ◌+◌, ◌≤◌}
use mathlib.Core.Path.{◌≡◌, ap, ◌∙◌}
use mathlib.Core.List.{List, ◌++◌}
use mathlib.Core.Bool.{Bool, true, ◌&&◌, ◌||◌}
use native.Mathlib.Omega.{arith}
use lib.ListN.{length, length-append}
use Rattle.ftd.specs.Runs.{run_of, ended}
use Rattle.ftd.specs.Fields.{field, fields_of, all_small, shaped, count_of}
use Rattle.ftd.specs.Items.{wrong_width, walk_of}
use Rattle.ftd.specs.Content.{passed_then}
use Rattle.ftd.proofs.parts.Laws.{widths-behind, walks-behind, counts_behind, shapely-behind, shaped-within}

module _ (a m b : List ℕ) (wa : ended (run_of field a) ≡ true) (wm : ended (run_of field m) ≡ true) where
  -- ─── Refusal 7 ───

  module _ (limit : ℕ) (room : length a + (length m + length b) ≤ limit) where
    within : length (a ++ (m ++ b)) ≤ limit
    within = rw (length-append a (m ++ b), length-append m b) room

    -- Of whole fields within the limit.
    small_is : (l : List ℕ) → ended (run_of field l) ≡ true → length l ≤ limit → shaped l limit ≡ all_small (fields_of l)
    small_is l w h = rw (shaped-within l limit h, w)

    pub three-shape : shaped (a ++ (m ++ b)) limit ≡ (shaped a limit && (shaped m limit && shaped b limit))
    three-shape =
        rw (
          shaped-within (a ++ (m ++ b)) limit within,
          shapely-behind a (m ++ b) wa,
          shapely-behind m b wm,
          small_is a wa (omega arith),
          small_is m wm (omega arith),
          shaped-within b limit (omega arith),
        )

  -- ─── Refusal 8 ───

  pub three-widths : wrong_width (a ++ (m ++ b)) ≡ (wrong_width a || (wrong_width m || wrong_width b))
  three-widths = widths-behind a (m ++ b) wa ∙ ap (λ (x : Bool). wrong_width a || x) (widths-behind m b wm)

  -- ─── Refusal 9 ───

  pub three-walks : walk_of (a ++ (m ++ b)) ≡ passed_then (walk_of a) (passed_then (walk_of m) (walk_of b))
  three-walks = walks-behind a (m ++ b) wa ∙ ap (passed_then (walk_of a)) (walks-behind m b wm)

  -- ─── Counts ───

  pub three-counts : (fid x y z : ℕ) → x ≡ count_of fid a → y ≡ count_of fid m → z ≡ count_of fid b
      → x + (y + z) ≡ count_of fid (a ++ (m ++ b))
  three-counts fid x y z p q r = rw (p, q, r, counts_behind a (m ++ b) wa fid, counts_behind m b wm fid)
