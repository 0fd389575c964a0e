use Prim.Native.Nat.{◌<◌}
use mathlib.Core.Path.{sym}
use mathlib.Core.List.{[]}
use native.Mathlib.Omega.{arith}
use borrow.Author.Rules.{rules}
use lib.ListN.{replicate}
use Rattle.ftd.specs.Runs.{run_of}
use Rattle.flow.specs.Log.{entry}
use Rattle.flow.proofs.log.Walked.{tracks-none, walk-by, walk-over, entry-part, walk-wrong, walk-wanted}
use Rattle.flow.proofs.log.Walked.{walk_turn, passed-inside}
use Rattle.flow.proofs.sender.Lookups.{eight}
use Rattle.flow.proofs.log.walk_entries.Goals as goal

pub loop-e-init : goal.loop-e-init
loop-e-init c = (
  search rules,
  sym (walk-by c.args.e (eight c.args.e _ c.well_formed.0).series c.args.s c.args.k [] (replicate 8 0)
      (run_of entry c.args.l.now).entries (tracks-none c.args.e)),
)

pub returns-then-n-eq0 : goal.returns-then-n-eq0
returns-then-n-eq0 c = search (rules, walk-over)

pub check_entry-requires : goal.check_entry-requires
check_entry-requires c = search (rules, entry-part)

pub returns-in-Wrong : goal.returns-in-Wrong
returns-in-Wrong c = search (rules, walk-wrong)

pub returns-in-Wanted : goal.returns-in-Wanted
returns-in-Wanted c =
    walk-wanted c.args.e c.args.s c.args.k c.args.l.now c.loop-e.at c.entry_size-n.result c.entry_size-n.ensures.0
    c.loop-e.last _ c.loop-e.invariant.1 c.if-n-eq0.false c.check_entry.result c.check_entry.ensures.0
    c.loop-e.invariant.0 c.in-Wanted.is

pub offset_bounds-last-place : goal.offset_bounds-last-place
offset_bounds-last-place c =
    let h : c.in-Passed.place < 8 = search (rules, passed-inside) in
    omega arith

pub bounds-last-place : goal.bounds-last-place
bounds-last-place c = search (rules, passed-inside)

pub loop-e-preserved : goal.loop-e-preserved
loop-e-preserved c = (search rules, search (rules, walk_turn))
