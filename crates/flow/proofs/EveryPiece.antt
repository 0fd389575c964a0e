-- Every piece counted (02, No. 10): each packet on the line bears its place. Assumes nothing.
use Prim.Native.Nat.{ℕ, ◌<◌}
use native.Mathlib.Omega.{arith}
use mathlib.Core.Path.{◌≡◌, refl, sym, ap}
use mathlib.Core.List.{List}
use mathlib.Core.Bool.{true, not}
use mathlib.Core.Option.{some}
use borrow.Author.Tests.{ne_eqb}
use lib.ListN.{get_elem?}
use lib.Seq.{take-append_seam}
use lib.Dec.{T}
use Rattle.ftd.specs.Packet.{dated_of}
use Rattle.ftd.specs.Bench.{all_same}
use Rattle.flow.specs.Ends.{most_pieces}
use Rattle.flow.specs.Receiving.{misplaced}
use Rattle.flow.specs.World.{Event, Transmission, start, run}
use Rattle.flow.specs.EveryPiece.{example_rows, Tagged, EveryPiece}
use Rattle.flow.proofs.common.Extends.{place_kept}
use Rattle.flow.proofs.common.Lists.{every-at}
use Rattle.flow.proofs.packets.Genuine.{BegunIn}
use Rattle.flow.proofs.pieces.Takes.{PacketAt, take-place}
use Rattle.flow.proofs.source.Sources.{run-source}
use Rattle.flow.proofs.single.Pieces.{packet-tags, compared, unplaced, agreeing, repeated, as_before, counts, full}
use Rattle.flow.proofs.bench.Opened.{opened}
use Rattle.std.specs.Prelude.{Some}

placed : (log buffer : List ℕ) (es : List Event) (i j : ℕ) (t : Transmission) (p : List ℕ)
    → get_elem? (run (start log buffer) es).serving.transmissions i ≡ some t → get_elem? t.packets j ≡ some p
    → (dated_of p).place ≡ Some j
placed log buffer es i j t p q h =
    let v = (run (start log buffer) es).serving in
    let g = every-at (BegunIn v.published) v.transmissions i t (run-source log buffer es).begun q in
    let a : PacketAt t.series g.what.tid _ g.day g.what.content j p =
    record { good = g.good; here = place_kept t.packets _ g.packets j p h } in
    take-place a

tagged : (log buffer : List ℕ) (es : List Event) (i j : ℕ) (t : Transmission) (p : List ℕ)
    → get_elem? (run (start log buffer) es).serving.transmissions i ≡ some t → get_elem? t.packets j ≡ some p
    → Tagged (run (start log buffer) es) t j p
tagged log buffer es i j t p q h =
    let v = (run (start log buffer) es).serving in
    let g = every-at (BegunIn v.published) v.transmissions i t (run-source log buffer es).begun q in
    record {
      day = g.day;
      place = g.place;
      message = g.what;
      published = g.placed;
      first = rw g.packets.1 (sym (take-append_seam t.packets g.packets.0));
      extension = packet-tags _ g.what.content j p (place_kept t.packets _ g.packets j p h);
    }

none-agrees : (j : ℕ) → j < 65536 → misplaced (Some j) most_pieces ≡ true
none-agrees j h = ap not (ne_eqb j most_pieces λ q. omega arith)

example : T (all_same example_rows)
unfolding opened
example = tt

pub every-piece : EveryPiece
every-piece =
    record {
      placed = placed;
      tagged = tagged;
      compared = compared;
      unplaced = unplaced;
      agreeing = agreeing;
      repeated = repeated;
      as_before = as_before;
      counts = counts;
      full = full;
      stops = refl;
      none-agrees = none-agrees;
      example = example;
    }
