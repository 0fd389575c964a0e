-- The log below after every list: entries of what was published on the open day, and nothing else. Assumes nothing.
use Prim.Native.Nat.{ℕ, suc}
use native.Mathlib.Omega.{arith}
use mathlib.Core.Path.{◌≡◌, refl, ap, sym, ◌∙◌}
use mathlib.Core.List.{List, [], ◌∷◌}
use mathlib.Core.Bool.{Bool, true, false, cond}
use borrow.Author.Tests.{eqb-true}
use lib.ListN.{length}
use lib.Dec.{eqb}
use Rattle.ftd.specs.Bytes.{joined}
use Rattle.ftd.specs.Runs.{Run, run_of}
use Rattle.ftd.proofs.runs.Joined.{Entries, run-of}
use Rattle.flow.specs.declared.sender.Sender.{Sender}
use Rattle.flow.specs.Log.{entry, times, entries_of}
use Rattle.flow.specs.Answers.{Message}
use Rattle.flow.proofs.source.Logs.{Pub, laid, Holds, entry-stands, series-back, tid-back, number-back, content-back}
use Rattle.flow.proofs.source.Histories.{on_day, messages_of, of_is}
use Rattle.relay.specs.Box.{serving}
use Rattle.relay.specs.World.{Lent, Node, SeatLine, BoxEvent, box_of, serving_at, start_box}
use Rattle.relay.specs.Agreement.{ran}
use Rattle.relay.specs.Calls.{messages_in, numbers_in, counting, LogHolds}
use Rattle.relay.proofs.Halves.{good_start, good-run}
use Rattle.std.specs.Prelude.{Some}

-- ─── Entries laid out ───

entry-head : entry.head ≡ 16
unfolding entry
entry-head = refl

laid-entries : (earlier : List ℕ) (ps : List Pub) → Entries entry (laid earlier ps)
laid-entries earlier [] = tt
laid-entries earlier (p ∷ ps) = (
  entry-stands p.series p.tid (suc (times p.series earlier)) p.content,
  laid-entries (p.series ∷ earlier) ps,
)

entries-laid : (e : Sender) (log : List ℕ) (ps : List Pub) → Holds e log ps → entries_of e log ≡ laid [] ps
unfolding entries_of
entries-laid e log ps h =
    ap (λ (l : List ℕ). (run_of entry l).entries) h.laid_out
    ∙ ap (λ (r : Run). r.entries) (run-of entry (rw entry-head (omega arith)) (laid [] ps) (laid-entries [] ps))

module _ (s : ℕ) where
  laid-messages : (earlier : List ℕ) (ps : List Pub) → messages_in s (laid earlier ps) ≡ messages_of s ps
  laid-messages earlier [] = refl
  laid-messages earlier (p ∷ ps) =
      let n = suc (times p.series earlier) in
      rw (
        series-back p.series p.tid n p.content,
        tid-back p.series p.tid n p.content,
        content-back p.series p.tid n p.content,
        laid-messages (p.series ∷ earlier) ps,
      ) refl

  laid-numbers : (earlier : List ℕ) (ps : List Pub)
      → numbers_in s (laid earlier ps) ≡ counting (suc (times s earlier)) (length (messages_of s ps))
  laid-numbers earlier [] = refl
  laid-numbers earlier (p ∷ ps) =
      let n = suc (times p.series earlier) in
      rw (series-back p.series p.tid n p.content, number-back p.series p.tid n p.content)
      (go (eqb p.series s) refl (laid-numbers (p.series ∷ earlier) ps))
    where
      go : (b : Bool) → eqb p.series s ≡ b
          → numbers_in s (laid (p.series ∷ earlier) ps)
          ≡ counting (suc (cond b (suc (times s earlier)) (times s earlier))) (length (messages_of s ps))
          → cond b (suc (times p.series earlier) ∷ numbers_in s (laid (p.series ∷ earlier) ps))
          (numbers_in s (laid (p.series ∷ earlier) ps))
          ≡ counting (suc (times s earlier))
          (length (cond b (record { tid = p.tid; content = p.content } ∷ messages_of s ps) (messages_of s ps)))
      go true q ih =
          let z = eqb-true p.series s q in
          ap (λ (t : ℕ). suc (times t earlier) ∷ numbers_in s (laid (p.series ∷ earlier) ps)) z
          ∙ ap (λ (l : List ℕ). suc (times s earlier) ∷ l) ih
      go false q ih = ih

-- ─── Of the box ───

module _ (n : Node) (i : ℕ) (x : SeatLine) (s d : ℕ) where
  same_entries : entries_of (serving (box_of n)) n.log ≡ entries_of (serving_at n i x).end n.log
  unfolding entries_of
  same_entries = refl

  holds-log : Holds (serving_at n i x).end n.log (on_day d n.published) → LogHolds n s d
  holds-log h =
      let q = same_entries ∙ entries-laid (serving_at n i x).end n.log (on_day d n.published) h in
      let o = of_is s d n.published in
      record {
        inside = h.inside;
        entries = h.laid_out ∙ ap joined (sym q);
        messages = ap (messages_in s) q ∙ laid-messages s [] (on_day d n.published) ∙ sym o;
        numbers =
            ap (numbers_in s) q ∙ laid-numbers s [] (on_day d n.published)
            ∙ ap (λ (l : List Message). counting 1 (length l)) (sym o);
      }

pub logged-run : (l : Lent) (es : List BoxEvent) (s d : ℕ) → (ran l es).node.day.date ≡ Some d
    → LogHolds (ran l es).node s d
logged-run l es s d q =
    let w = ran l es in
    let h = ((good-run (start_box l) (good_start l) es).below-timely 0 (omega arith)).source.served.holds in
    holds-log w.node 0 (w.lines 0) s d (rw q at h)
