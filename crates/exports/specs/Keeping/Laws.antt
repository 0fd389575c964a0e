-- What holds of checkpoints as numbers (02, No. 13): nothing of them is lost between two calls.
use Rattle.std.specs.Prelude.{ℕ, ◌≡◌, List}
use Rattle.flow.specs.declared.receiver.Receiver.{Receiver}
use Rattle.flow.specs.declared.checkpoint.Checkpoints.{Checkpoints}
use Rattle.flow.specs.Checkpoints.{fresh_checkpoints, keep_of, restore_of}
use Rattle.exports.specs.declared.receiving.FtdReceiver.{FtdReceiver}
use Rattle.exports.specs.declared.keeping.FtdCheckpoints.{FtdCheckpoints}
use Rattle.exports.specs.Receiving.{receiver_for}
use Rattle.exports.specs.Keeping.{checkpoints_for, checkpoints_numbers, kept_step_numbers, returned_numbers}
use Rattle.exports.specs.Laws.{ReceiverIs}

pub record CheckpointNumberLaws : Type 0 where
  -- The numbers of checkpoints say those checkpoints.
  pub back : (c : Checkpoints) → checkpoints_for (checkpoints_numbers c) ≡ c
  -- So calls one behind the other, each given the numbers that the last one left, are the calls of `flow` one behind
  -- the other, those of the receiving end among them (`EndLaws`).
  pub fresh : checkpoints_for (checkpoints_numbers fresh_checkpoints) ≡ fresh_checkpoints
  pub keep : (n : FtdCheckpoints) (c : Checkpoints) → checkpoints_for n ≡ c
      → (m : FtdReceiver) (e : Receiver) → ReceiverIs m e → (name : List ℕ)
      → checkpoints_for (kept_step_numbers (keep_of (checkpoints_for n) (receiver_for m) name)).checkpoints
      ≡ (keep_of c e name).end
  pub restore : (n : FtdCheckpoints) (c : Checkpoints) → checkpoints_for n ≡ c
      → (m : FtdReceiver) (e : Receiver) → ReceiverIs m e → (name : List ℕ)
      → ReceiverIs (returned_numbers (restore_of (checkpoints_for n) (receiver_for m) name)).end
      (restore_of c e name).end
