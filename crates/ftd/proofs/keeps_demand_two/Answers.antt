use Rattle.ftd.proofs.packet.Laws.{read-laws}
use Rattle.ftd.proofs.write.Laws.{write-laws}
use Rattle.ftd.proofs.chain.Laws.{chain_laws}
use Rattle.ftd.proofs.fields.Laws.{field_laws}
use Rattle.ftd.proofs.item.Laws.{item-laws}
use Rattle.ftd.proofs.item.Fields.{known-laws}
use Rattle.ftd.proofs.values.Laws.{value-laws}
use Rattle.ftd.proofs.keeps_demand_two.Goals as goal

pub returns : goal.returns
returns c =
    record {
      reading = read-laws;
      writing = write-laws;
      messages = chain_laws;
      fields = field_laws;
      items = item-laws;
      values = value-laws;
      known = known-laws;
    }
