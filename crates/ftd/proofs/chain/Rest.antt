-- The packets of a message put from the last to the first, a piece at a time, over plain variables. Assumes nothing.
use Prim.Native.Nat.{ℕ, suc, ◌+◌, ◌-◌, ◌<◌, ◌≤◌}
use mathlib.Core.Path.{◌≡◌, refl, sym, ap, ◌∙◌}
use mathlib.Core.List.{List, [], ◌∷◌, ◌++◌, append-nil}
use mathlib.Core.Bool.{Bool, true, false, cond}
use native.Mathlib.Numerals.{add-one}
use native.Mathlib.Omega.{arith}
use borrow.Author.Tests.{le-leb}
use lib.Dec.{eqb}
use lib.ListN.{length, drop, length-append}
use Rattle.ftd.specs.Bytes.{put, joined}
use Rattle.ftd.specs.Runs.{run_of}
use Rattle.ftd.specs.Fields.{field, shapely, shaped}
use Rattle.ftd.specs.Chain.{Piece, pieces_of, chain_at, packet_for, is_nil, packets_of, chain_verdict, tags_at}
use Rattle.ftd.specs.Chain.Helpers.{piece_at, NextPiece, rest_of, PutRest, size_of}
use Rattle.ftd.specs.Tags.{extension_bytes}
use Rattle.ftd.specs.Write.{fine, refuse, written_answer, written_output}
use Rattle.ftd.specs.declared.refusal.Refusal.TheVariants.{FieldRun, TooSmall}
use Rattle.ftd.specs.declared.chain.Cut.{Cut}
use Rattle.ftd.specs.declared.chain.Message.{Message}
use Rattle.ftd.proofs.bytes.Put.{length-put, put-before}
use Rattle.ftd.proofs.write.Puts.{by-refusal, by-room, by-writing}
use Rattle.ftd.proofs.chain.Pieces.{both, below, pieces-some, framed-size, piece-packet, whole-last, broken-here}
use Rattle.ftd.proofs.chain.Pieces.{frame-more, frame-last, tags-long}
use Rattle.std.specs.Prelude.{Ok, Err}
use Rattle.ftd.specs.declared.write.WriteError.TheVariants.{Refused}

module _ (m : Message) (j : ℕ) (l : List ℕ) (at to tags : ℕ) (c : Cut) (next : NextPiece l at c)
    (t : tags ≡ length (extension_bytes (tags_at m 0))) (out : List ℕ) where
  tags-here : tags ≡ length (extension_bytes (tags_at m j))
  tags-here = t ∙ sym (tags-long m j)

  packet-long : (last : Bool) → to + length
      (packet_for m j (chain_at (eqb j 0) last) (piece_at l at c)) ≡ to + (4 + tags + (16 + (c.end - at)))
  packet-long last = rw tags-here (piece-packet l at c next m j (chain_at (eqb j 0) last) to)

  -- ─── The last piece ───

  module _ (h : c.end ≡ length l) where
    rest-last : rest_of m j l at ≡ packet_for m j (chain_at (eqb j 0) true) (piece_at l at c)
    rest-last = ap joined (frame-last l at c next (whole-last l at c next h) m j h) ∙ append-nil _

    reach-last : to + (4 + tags + (16 + (c.end - at))) ≡ to + length (rest_of m j l at)
    reach-last = rw rest-last (sym (packet-long true))

    pub last_fits : to + (4 + tags + (16 + (c.end - at))) ≤ length out
        → to + (4 + length (extension_bytes (tags_at m j)) + (16 + (c.end - at))) ≤ length out
    last_fits k = rw (← tags-here) k

    pub last-small : length out < to + (4 + tags + (16 + (c.end - at)))
        → PutRest m j l at to out out (to + (4 + tags + (16 + (c.end - at))))
    last-small k =
        record {
          broken = λ b. both _ (whole-last l at c next h) b;
          reaches = λ s. reach-last;
          stays = λ s w. refl;
          puts = λ s w. absurd (omega arith);
        }

    pub last-put : (after : List ℕ) → to + (4 + tags + (16 + (c.end - at))) ≤ length out
        → after ≡ put out to (packet_for m j (chain_at (eqb j 0) true) (piece_at l at c))
        → PutRest m j l at to out after (to + (4 + tags + (16 + (c.end - at))))
    last-put after k w =
        record {
          broken = λ b. both _ (whole-last l at c next h) b;
          reaches = λ s. reach-last;
          stays = λ s x. absurd (omega arith);
          puts = λ s x. rw rest-last w;
        }

  -- ─── A piece that is none ───

  pub none_here : (c.end ≡ length l → ⊥) → c.end ≡ at → PutRest m j l at to out out 0
  none_here h e =
      record {
        broken = λ b. (refl, refl);
        reaches = λ s. both _ s (broken-here l at c next e h);
        stays = λ s w. refl;
        puts = λ s w. both _ s (broken-here l at c next e h);
      }

  -- ─── A piece before others, which are put ───

  module _ (h : c.end ≡ length l → ⊥) (mid : List ℕ) (reach : ℕ)
      (given : PutRest m (j + 1) l c.end (to + (4 + tags + (16 + (c.end - at)))) out mid reach) where
    p : PutRest m (suc j) l c.end (to + (4 + tags + (16 + (c.end - at)))) out mid reach
    p = rw (add-one j) at given

    rest_more : shapely (run_of field (drop at l)) ≡ true
        → rest_of m j l at ≡ packet_for m j (chain_at (eqb j 0) false) (piece_at l at c) ++ rest_of m (suc j) l c.end
    rest_more s = ap joined (frame-more l at c next s m j (below c.end (length l) next.high h))

    reach-more : shapely (run_of field (drop at l)) ≡ true → reach ≡ to + length (rest_of m j l at)
    reach-more s = rw (rest_more s, length-append) (omega (arith, p.reaches (next.left ∙ s), packet-long false))

    pub more-broken : reach ≡ 0 → PutRest m j l at to out mid 0
    more-broken z =
        record {
          broken = λ b. (refl, (p.broken (next.left ∙ b)).1);
          reaches = λ s. absurd (omega (arith, p.reaches (next.left ∙ s)));
          stays = λ s w. absurd (omega (arith, p.reaches (next.left ∙ s)));
          puts = λ s w. absurd (omega (arith, p.reaches (next.left ∙ s)));
        }

    module _ (z : reach ≡ 0 → ⊥) where
      -- What is put reaches beyond this piece.
      more_room : to + (4 + tags + (16 + (c.end - at))) ≤ reach
      more_room = go (shapely (run_of field (drop c.end l))) refl
        where
          go : (b : Bool) → shapely (run_of field (drop c.end l)) ≡ b → to + (4 + tags + (16 + (c.end - at))) ≤ reach
          go true s = omega (arith, p.reaches s)
          go false s = absurd (z (p.broken s).0)

      pub more-fits : reach ≤ length mid
          → to + (4 + length (extension_bytes (tags_at m j)) + (16 + (c.end - at))) ≤ length mid
      more-fits k = rw (← tags-here) (omega (arith, more_room))

      pub more-small : length mid < reach → PutRest m j l at to out mid reach
      more-small k =
          record {
            broken = λ b. absurd (z (p.broken (next.left ∙ b)).0);
            reaches = reach-more;
            stays = λ s w. p.stays (next.left ∙ s) w;
            puts =
                λ s w.
                let q = p.reaches (next.left ∙ s) in
                absurd (omega (
                  arith,
                  ap length (p.puts (next.left ∙ s) w)
                      ∙ length-put out _ (rest_of m (suc j) l c.end) (omega (arith, q)),
                ));
          }

      pub more-put : (after : List ℕ) → reach ≤ length mid
          → after ≡ put mid to (packet_for m j (chain_at (eqb j 0) false) (piece_at l at c))
          → PutRest m j l at to out after reach
      more-put after k w =
          record {
            broken = λ b. absurd (z (p.broken (next.left ∙ b)).0);
            reaches = reach-more;
            stays = λ s x. absurd (omega (arith, ap length (p.stays (next.left ∙ s) x)));
            puts =
                λ s x.
                rw (rest_more s)
                (w ∙ ap (λ (o : List ℕ). put o to (packet_for m j (chain_at (eqb j 0) false) (piece_at l at c)))
                (p.puts (next.left ∙ s) x)
                ∙ put-before out to _ (packet_for m j (chain_at (eqb j 0) false) (piece_at l at c)) (rest_of m (suc j) l c.end)
                (packet-long false) (omega (arith, more_room)));
          }

-- ─── All packets ───

some_bytes : (ext : ℕ) (ps : List Piece) → is_nil ps ≡ false → 0 < size_of ext ps
some_bytes ext [] e = both true refl e
some_bytes ext (p ∷ ps) e = omega arith

module _ (m : Message) (l out after : List ℕ) (reach : ℕ) (p : PutRest m 0 l 0 0 out after reach)
    (h : length l ≤ 32768) where
  verdict : chain_verdict l ≡ cond (shapely (run_of field l)) fine (refuse FieldRun)
  unfolding chain_verdict shaped
  verdict = rw (le-leb (length l) 32768 h)

  long : shapely (run_of field l) ≡ true → length (joined (packets_of m l)) ≡ reach
  unfolding packets_of
  long s = omega (arith, p.reaches s)

  pub all-broken : reach ≡ 0 → (Err (Refused FieldRun) ≡ written_answer (chain_verdict l) (joined (packets_of m l)) out)
      × (after ≡ written_output (chain_verdict l) (joined (packets_of m l)) out)
  all-broken z = go (shapely (run_of field l)) refl
    where
      go : (b : Bool) → shapely (run_of field l) ≡ b
          → (Err (Refused FieldRun) ≡ written_answer (chain_verdict l) (joined (packets_of m l)) out)
          × (after ≡ written_output (chain_verdict l) (joined (packets_of m l)) out)
      go true s =
          absurd (omega (
            arith,
            p.reaches s,
            framed-size m 0 (pieces_of l),
            some_bytes
                (length (extension_bytes (tags_at m 0))) (pieces_of l) (pieces-some l),
          ))
      go false s = rw (p.broken s).1 (by-refusal _ _ _ FieldRun (verdict ∙ rw s))

  module _ (z : reach ≡ 0 → ⊥) where
    whole : shapely (run_of field l) ≡ true
    whole = go (shapely (run_of field l)) refl
      where
        go : (b : Bool) → shapely (run_of field l) ≡ b → b ≡ true
        go true s = refl
        go false s = absurd (z (p.broken s).0)

    pub all_small : length out < reach
        → (Err (Refused TooSmall) ≡ written_answer (chain_verdict l) (joined (packets_of m l)) out)
        × (after ≡ written_output (chain_verdict l) (joined (packets_of m l)) out)
    all_small k = rw (p.stays whole k) (by-room _ _ _ (verdict ∙ rw whole) reach (long whole) k)

    pub all-put : reach ≤ length out → (Ok reach ≡ written_answer (chain_verdict l) (joined (packets_of m l)) out)
        × (after ≡ written_output (chain_verdict l) (joined (packets_of m l)) out)
    unfolding packets_of
    all-put k = by-writing _ _ _ (verdict ∙ rw whole) reach (long whole) after k (p.puts whole k)
