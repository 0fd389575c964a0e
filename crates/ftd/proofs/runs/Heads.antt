-- Numbers in a part that starts further on, and the entry that stands at a place. Assumes nothing.
use Prim.Native.Nat.{ℕ, ◌+◌, ◌<◌, ◌≤◌}
use mathlib.Core.Path.{◌≡◌}
use mathlib.Core.List.{List}
use native.Mathlib.Nat.{add_assoc}
use borrow.Author.Tests.{lt-leb, le-leb}
use lib.ListN.{length, drop}
use lib.Seq.{get_or-drop}
use Rattle.ftd.specs.Bytes.{be16_of, be32_of}
use Rattle.ftd.specs.Runs.{Form, front}

pub be16-drop : (n : ℕ) (l : List ℕ) (i : ℕ) → be16_of (drop n l) i ≡ be16_of l (n + i)
unfolding be16_of
be16-drop n l i = simp (get_or-drop, add_assoc)

pub be32-drop : (n : ℕ) (l : List ℕ) (i : ℕ) → be32_of (drop n l) i ≡ be32_of l (n + i)
unfolding be32_of
be32-drop n l i = simp (get_or-drop, add_assoc)

module _ (F : Form) (l : List ℕ) where
  pub front-short : length l < F.head + F.follow l → front F l ≡ 0
  unfolding front
  front-short h = rw (lt-leb (F.head + F.follow l) (length l) h)

  pub front-whole : F.head + F.follow l ≤ length l → front F l ≡ F.head + F.follow l
  unfolding front
  front-whole h = rw (le-leb (F.head + F.follow l) (length l) h)
