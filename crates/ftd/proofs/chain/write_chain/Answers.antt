use lib.ListN.{length}
use borrow.Author.Rules.{rules}
use borrow.Author.Tests.{lt-leb}
use Rattle.ftd.specs.Chain.{chain_verdict}
use Rattle.ftd.specs.Fields.{shaped}
use Rattle.ftd.proofs.write.Puts.{by-refusal, short-told, fits-told}
use Rattle.ftd.proofs.chain.Rest.{all-broken, all_small, all-put}
use Rattle.ftd.proofs.chain.write_chain.Goals as goal

pub returns-then-content-gt-MOST_CONTENT : goal.returns-then-content-gt-MOST_CONTENT
unfolding chain_verdict shaped
returns-then-content-gt-MOST_CONTENT c =
    let said = by-refusal _ _ _ _ (rw (lt-leb _ _ c.if-content-gt-MOST_CONTENT.true)) in
    record { answer = said.0; output = said.1 }

pub returns-then-n-eq0 : goal.returns-then-n-eq0
returns-then-n-eq0 c =
    let said = all-broken _ _ _ _ _ c.put_rest-n.ensures (search rules) c.if-n-eq0.true in
    record { answer = said.0; output = said.1 }

pub returns-in_err-room : goal.returns-in_err-room
returns-in_err-room c =
    let short = short-told c.put_rest-n.result (length c.put_rest-n.new.out) _ c.room.ensures _ c.in_err-room.was in
    let less = short.0 in
    let said = all_small _ _ _ _ _ c.put_rest-n.ensures (search rules) c.if-n-eq0.false (search rules) in
    record { answer = search rules; output = said.1 }

pub returns : goal.returns
returns c =
    let fits = fits-told c.put_rest-n.result (length c.put_rest-n.new.out) _ c.room.ensures c.in_ok-room.was in
    let said = all-put _ _ _ _ _ c.put_rest-n.ensures (search rules) c.if-n-eq0.false (search rules) in
    record { answer = said.0; output = said.1 }
