-- The tags of a message's packets, over plain variables. Assumes nothing.
use Prim.Native.Nat.{ℕ, ◌+◌, ◌≤◌}
use mathlib.Core.Path.{◌≡◌, refl, sym, ap, ◌∙◌}
use mathlib.Core.List.{List, [], ◌∷◌, ◌++◌, append_assoc, append-nil}
use mathlib.Core.Bool.{Bool, true, false}
use native.Mathlib.Omega.{arith}
use lib.ListN.{length, length-append}
use Rattle.ftd.specs.Bytes.{put}
use Rattle.ftd.specs.Tags.{Tag, tag_bytes, extension_bytes, tags_for, place_tag}
use Rattle.ftd.specs.Chain.{tags_at}
use Rattle.ftd.specs.declared.chain.Message.{Message}
use Rattle.ftd.proofs.bytes.Put.{length-put}
use Rattle.ftd.proofs.write.Puts.{then}

-- One tag more behind the others.
one_more : (ts : List Tag) (t : Tag) → extension_bytes (ts ++ (t ∷ [])) ≡ extension_bytes ts ++ tag_bytes t
one_more [] t = append-nil (tag_bytes t)
one_more (s ∷ ts) t =
    ap (λ (l : List ℕ). tag_bytes s ++ l) (one_more ts t)
    ∙ sym (append_assoc (tag_bytes s) (extension_bytes ts) (tag_bytes t))

module _ (m : Message) (j : ℕ) where
  counted-tags : m.counted ≡ true
      → extension_bytes (tags_at m j) ≡ extension_bytes (tags_for m.date) ++ tag_bytes (place_tag j)
  counted-tags q = rw q (one_more (tags_for m.date) (place_tag j))

  uncounted-tags : m.counted ≡ false → extension_bytes (tags_at m j) ≡ extension_bytes (tags_for m.date)
  uncounted-tags q = rw q (ap extension_bytes (append-nil (tags_for m.date)))

  counted-long : m.counted ≡ true → length (extension_bytes (tags_at m j)) ≡ length (extension_bytes (tags_for m.date)) + 4
  counted-long q = rw (counted-tags q) (length-append (extension_bytes (tags_for m.date)) (tag_bytes (place_tag j)))

  -- The trade date is a part of them.
  pub date-room : (to room : ℕ) → to + length (extension_bytes (tags_at m j)) ≤ room
      → to + length (extension_bytes (tags_for m.date)) ≤ room
  date-room to room h = go m.counted refl
    where
      go : (b : Bool) → m.counted ≡ b → to + length (extension_bytes (tags_for m.date)) ≤ room
      go true q = omega (arith, counted-long q)
      go false q = rw (← (uncounted-tags q)) h

-- How many bytes they take at every place.
module _ (m : Message) (n : ℕ) (e : n ≡ length (extension_bytes (tags_for m.date))) (few : n ≤ 6) where
  pub size-counted : m.counted ≡ true → (n + 4 ≡ length (extension_bytes (tags_at m 0))) × (n + 4 ≤ 10)
  size-counted q = (omega (arith, counted-long m 0 q), omega arith)

  pub size-uncounted : m.counted ≡ false → (n ≡ length (extension_bytes (tags_at m 0))) × (n ≤ 10)
  size-uncounted q = (e ∙ ap length (sym (uncounted-tags m 0 q)), omega arith)

-- They are put one behind the other.
module _ (m : Message) (j to : ℕ) (l o : List ℕ) (room : to + length (extension_bytes (tags_at m j)) ≤ length l)
    (dated : o ≡ put l to (extension_bytes (tags_for m.date))) where
  pub put-uncounted : m.counted ≡ false → o ≡ put l to (extension_bytes (tags_at m j))
  put-uncounted q = dated ∙ ap (put l to) (sym (uncounted-tags m j q))

  module _ (n : ℕ) (e : n ≡ length (extension_bytes (tags_for m.date))) (q : m.counted ≡ true) where
    pub place-room : to + n + 4 ≤ length o
    place-room =
        let kept : length o ≡ length l =
        ap length dated ∙ length-put l to (extension_bytes (tags_for m.date)) (date-room m j to (length l) room) in
        omega (arith, counted-long m j q)

    pub put-counted : (p : List ℕ) → p ≡ put o (to + n) (tag_bytes (place_tag j)) → p ≡ put l to (extension_bytes (tags_at m j))
    put-counted p y =
        then l o p to (to + n) (extension_bytes (tags_for m.date)) (tag_bytes (place_tag j)) (omega arith) (rw e refl) dated y
        ∙ ap (put l to) (sym (counted-tags m j q))
