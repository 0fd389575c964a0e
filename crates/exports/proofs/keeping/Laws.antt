-- `CheckpointNumberLaws` holds. Assumes nothing.
use Prim.Native.Nat.{ℕ}
use mathlib.Core.Path.{◌≡◌, refl}
use mathlib.Core.List.{List, [], ◌∷◌, map}
use Rattle.flow.specs.declared.receiver.KeptSeries.{KeptSeries}
use Rattle.flow.specs.declared.receiver.Receiver.{Receiver}
use Rattle.flow.specs.declared.checkpoint.Checkpoint.{Checkpoint}
use Rattle.flow.specs.declared.checkpoint.Checkpoints.{Checkpoints}
use Rattle.flow.specs.Types.{Restored}
use Rattle.flow.specs.Ends.{Left}
use Rattle.flow.specs.Checkpoints.{fresh_checkpoints, keep_of, restore_of, checkpoint_of}
use Rattle.flow.proofs.ends.ReceiverLookups.{Eight}
use Rattle.flow.proofs.rewind.Restored.{restored-eight}
use Rattle.flow.proofs.rewind.Linked.{Restores-as, restore-as, restores}
use Rattle.exports.specs.Keeping.{kept_series_for, checkpoint_for, checkpoints_for, kept_series_numbers}
use Rattle.exports.specs.Keeping.{checkpoint_numbers, checkpoints_numbers, returned_numbers}
use Rattle.exports.specs.Keeping.Laws.{CheckpointNumberLaws}
use Rattle.exports.specs.Laws.{ReceiverIs}
use Rattle.exports.proofs.Laws.{date-back, receiver-is, eight-at}

-- Each of a list as numbers, and back.
each_back : {A B : Type 0} (f : B → A) (g : A → B) → ((x : A) → f (g x) ≡ x) → (l : List A) → map f (map g l) ≡ l
each_back f g h [] = refl
each_back f g h (x ∷ l) = rw (h x, each_back f g h l) refl

series-back : (k : KeptSeries) → kept_series_for (kept_series_numbers k) ≡ k
series-back k = rw (date-back k.date) refl

place-back : (x : Checkpoint) → checkpoint_for (checkpoint_numbers x) ≡ x
place-back x = rw (each_back kept_series_for kept_series_numbers series-back x.kept.series) refl

back : (c : Checkpoints) → checkpoints_for (checkpoints_numbers c) ≡ c
unfolding checkpoints_for checkpoints_numbers
back c = rw (each_back checkpoint_for checkpoint_numbers place-back c.places) refl

restored-is : (c : Checkpoints) (e : Receiver) → Eight e → (name : List ℕ)
    → ReceiverIs (returned_numbers (restore_of c e name)).end (restore_of c e name).end
restored-is c e z name = receiver-is (restore_of c e name).end (go _ (restore-as c e name))
  where
    go : (r : Left Receiver Restored) → Restores-as c e name r → Eight r.end
    go r (Restores-as.refuses x) = z
    go r (restores a u) = restored-eight e (checkpoint_of c name) z

pub checkpoint-number-laws : CheckpointNumberLaws
checkpoint-number-laws =
    record {
      back = back;
      fresh = back fresh_checkpoints;
      keep = λ n c h m e k name. rw (h, k.0) (back (keep_of c e name).end);
      restore = λ n c h m e k name. rw (h, k.0) (restored-is c e (eight-at m e k) name);
    }
