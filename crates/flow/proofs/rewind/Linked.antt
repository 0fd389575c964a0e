-- What is kept under a name belongs to what is remembered with it: one claim of every name in use, kept by each event.
-- Assumes nothing.
use Prim.Native.Nat.{ℕ, ◌<◌}
use mathlib.Core.Path.{◌≡◌, refl, sym, ap, ◌∙◌}
use mathlib.Core.List.{List, [], ◌∷◌}
use mathlib.Core.Bool.{Bool, true, false, cond, not, ◌&&◌}
use borrow.Author.Tests.{leb-false}
use lib.Dec.{leb}
use Rattle.ftd.specs.Bench.{same}
use Rattle.ftd.specs.declared.refusal.Refusal.{Refusal}
use Rattle.flow.specs.declared.receiver.Receiver.{Receiver}
use Rattle.flow.specs.declared.checkpoint.Checkpoints.{Checkpoints}
use Rattle.flow.specs.Types.{Saved}
use Rattle.flow.specs.Types.{Restored}
use Rattle.flow.specs.Ends.{Left, left}
use Rattle.flow.specs.Checkpoints.{most_names, wrong_name, name_code, fresh_checkpoints, is_used, checkpoint_of}
use Rattle.flow.specs.Checkpoints.{with_checkpoint, keep_of, restored, restore_of}
use Rattle.flow.specs.Rewind.{Memory, memory_of}
use Rattle.flow.proofs.common.Bools.{clash}
use Rattle.flow.proofs.common.Rows.{by-when}
use Rattle.flow.proofs.rewind.Names.{same-is, same_of, same_code}
use Rattle.flow.proofs.rewind.Lookups.{Four, fresh-unused, with-kept}
use Rattle.std.specs.Prelude.{Ok, Err}

-- ─── What the calls come to ───

pub data Keeps-as (c : Checkpoints) (e : Receiver) (name : List ℕ) : Left Checkpoints Saved → Type 0 where
  refuses : (r : Refusal) → Keeps-as c e name (left c (Err r))
  keeps : wrong_name name ≡ false → (is_used c name ≡ false → c.count < 4)
      → Keeps-as c e name (left (with_checkpoint c name e.kept) (Ok tt))

pub keep-as : (c : Checkpoints) (e : Receiver) (name : List ℕ) → Keeps-as c e name (keep_of c e name)
unfolding keep_of
keep-as c e name =
    by-when (Keeps-as c e name) (wrong_name name) (λ q. refuses _) λ a.
    by-when (Keeps-as c e name) (not (is_used c name) && leb most_names c.count) (λ q. refuses _) λ b.
    keeps a λ u. leb-false 4 c.count (room (is_used c name) u b)
  where
    room : (x : Bool) → x ≡ false → (not x && leb 4 c.count) ≡ false → leb 4 c.count ≡ false
    room x u b = rw u at b

pub data Restores-as (c : Checkpoints) (e : Receiver) (name : List ℕ) : Left Receiver Restored → Type 0 where
  refuses : (r : Refusal) → Restores-as c e name (left e (Err r))
  restores : wrong_name name ≡ false → is_used c name ≡ true
      → Restores-as c e name (left (restored e (checkpoint_of c name)) (Ok tt))

pub restore-as : (c : Checkpoints) (e : Receiver) (name : List ℕ) → Restores-as c e name (restore_of c e name)
unfolding restore_of
restore-as c e name =
    by-when (Restores-as c e name) (wrong_name name) (λ q. refuses _) λ a.
    by-when (Restores-as c e name) (not (is_used c name)) (λ q. refuses _) λ b.
    restores a (used (is_used c name) b)
  where
    used : (x : Bool) → not x ≡ false → x ≡ true
    used true q = refl
    used false q = clash _ refl q

-- ─── The link ───

-- Something is remembered with the name, it is of the end whose durable part is kept under it, and X holds of it.
pub record There {A : Type 0} (X : Memory A → Type 0) (c : Checkpoints) (l : List (Memory A)) (name : List ℕ) : Type 0
  where
    pub memory : Memory A
    pub found : (m : Memory A) → memory_of name m l ≡ memory
    pub named : memory.name ≡ name
    pub is : checkpoint_of c name ≡ memory.end.kept
    pub holds : X memory

pub record Linked {A : Type 0} (X : Memory A → Type 0) (c : Checkpoints) (l : List (Memory A)) : Type 0 where
  pub four : Four c
  pub each : (name : List ℕ) → wrong_name name ≡ false → is_used c name ≡ true → There X c l name

pub linked-fresh : {A : Type 0} (X : Memory A → Type 0) → Four fresh_checkpoints → Linked X fresh_checkpoints []
linked-fresh X h = record { four = h; each = λ name a u. clash _ u (fresh-unused name) }

-- Whatever holds instead.
pub linked_on : {A : Type 0} (X Y : Memory A → Type 0) (c : Checkpoints) (l : List (Memory A))
    → ((m : Memory A) → X m → Y m)
    → Linked X c l → Linked Y c l
linked_on X Y c l f h =
    record {
      four = h.four;
      each = λ name a u.
          let t = h.each name a u in
          record {
            memory = t.memory;
            found = t.found;
            named = t.named;
            is = t.is;
            holds = f t.memory t.holds;
          };
    }

-- Something is kept; of what was kept under other names Y holds.
module _ {A : Type 0} (X : Memory A → Type 0) (c : Checkpoints) (l : List (Memory A)) (h : Linked X c l) (x : Memory A)
    (good : wrong_name x.name ≡ false) (room : is_used c x.name ≡ false → c.count < 4)
    (Y : Memory A → Type 0) (on : (m : Memory A) → same x.name m.name ≡ false → X m → Y m) (holds : Y x) where
  abbrev after : Checkpoints
  after = with_checkpoint c x.name x.end.kept

  pub linked-keep : Linked Y after (x ∷ l)
  linked-keep =
      let k = with-kept c h.four x.name x.end.kept room in
      record { four = k.four; each = λ n a u. go n a u (same x.name n) refl }
    where
      go : (n : List ℕ) → wrong_name n ≡ false → is_used after n ≡ true → (b : Bool) → same x.name n ≡ b
          → There Y after (x ∷ l) n
      go n a u true q =
          let k = with-kept c h.four x.name x.end.kept room in
          let z : x.name ≡ n = same-is x.name n q in
          record {
            memory = x;
            found = λ m. rw q;
            named = z;
            is = ap (checkpoint_of after) (sym z) ∙ k.here;
            holds = holds;
          }
      go n a u false q =
          let k = with-kept c h.four x.name x.end.kept room in
          let other : name_code n ≡ name_code x.name → ⊥ =
          λ e. clash (same x.name n) (same_of x.name n (sym (same_code n x.name a good e))) q in
          let v = sym (k.used n other) ∙ u in
          let t = h.each n a v in
          record {
            memory = t.memory;
            found = λ m. ap (λ (b : Bool). cond b x (memory_of n m l)) q ∙ t.found m;
            named = t.named;
            is = k.others n other v ∙ t.is;
            holds = on t.memory (ap (same x.name) t.named ∙ q) t.holds;
          }
