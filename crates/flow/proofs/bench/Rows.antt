-- The worked rows of checkpoints and of the order, computed. Assumes nothing.
use Rattle.flow.specs.Checkpoints.{wrong_name, fresh_checkpoints, used_names, is_used, checkpoint_of, with_checkpoint}
use Rattle.flow.specs.Checkpoints.{keep_of, restored, restore_of}
use Rattle.flow.specs.CheckpointRows.{four_kept, checkpoint_rows, CheckpointRows}
use Rattle.flow.specs.Order.{logged, order_of}
use Rattle.flow.specs.OrderRows.{whole, order_rows, OrderRows}
use Rattle.flow.proofs.bench.Opened.{opened}

pub checkpoint-rows : CheckpointRows
unfolding opened wrong_name fresh_checkpoints used_names is_used checkpoint_of with_checkpoint keep_of restored restore_of
    four_kept checkpoint_rows
checkpoint-rows = tt

pub order-rows : OrderRows
unfolding opened logged order_of whole order_rows
order-rows = tt
