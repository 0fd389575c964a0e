-- The histories of the world are those of the events that count. Assumes nothing.
use Prim.Native.Nat.{ℕ}
use mathlib.Core.Path.{◌≡◌, refl, sym, ap, ◌∙◌}
use mathlib.Core.List.{List, [], ◌∷◌, ◌++◌, append-nil}
use mathlib.Core.Bool.{false, cond}
use lib.ListN.{get_elem?}
use Rattle.flow.specs.declared.receiver.Receiver.{Receiver}
use Rattle.flow.specs.declared.checkpoint.Checkpoints.{Checkpoints}
use Rattle.flow.specs.Types.{Saved}
use Rattle.flow.specs.Types.{Restored}
use Rattle.flow.specs.Ends.{Left}
use Rattle.flow.specs.Answers.{is_taken, saved_said, restored_said}
use Rattle.flow.specs.World
use Rattle.flow.specs.World.{Event, World, step}
use Rattle.flow.specs.Rewind.{RewindEvent, call, keep, restore, Histories, Memory, remember, RewindWorld}
use Rattle.flow.specs.Rewind.{rewind_start, after_keep, after_restore, rewind_step, rewind_run}
use Rattle.flow.specs.Effective.{Happened, happened, happenings, keeps_as, UpTo, here, past, Effective, nothing}
use Rattle.flow.specs.Effective.{handed_in, reported_in, Counting, EffectiveHistories}
use Rattle.flow.specs.Effective.{did, kept, back, with-did, with-kept, returned}
use Rattle.flow.proofs.common.Bools.{clash}
use Rattle.flow.proofs.common.Extends.{Extends}
use Rattle.flow.proofs.common.Lists.{since-is}
use Rattle.flow.proofs.common.Rows.{by-given}
use Rattle.flow.proofs.rewind.Names.{same_of}
use Rattle.flow.proofs.rewind.Lookups.{fresh-four}
use Rattle.flow.proofs.rewind.Linked.{Keeps-as, keep-as, keeps, Restores-as, restore-as, restores, Linked}
use Rattle.flow.proofs.rewind.Linked.{linked-fresh, linked_on, linked-keep}

-- ─── Histories grow by each call ───

record Grown (w v : World) : Type 0 where
  handed : Extends w.receiving.handed v.receiving.handed
  reports : Extends w.receiving.reports v.receiving.reports

grown-same : (w v : World) → v.receiving.handed ≡ w.receiving.handed → v.receiving.reports ≡ w.receiving.reports
    → Grown w v
grown-same w v a b =
    record {
      handed = ([], a ∙ sym (append-nil w.receiving.handed));
      reports = ([], b ∙ sym (append-nil w.receiving.reports));
    }

grown-step : (w : World) (e : Event) → Grown w (step w e)
grown-step w (World.open_sender date ss rs) = grown-same w _ refl refl
grown-step w (World.publish t tid c) = grown-same w _ refl refl
grown-step w (World.login t i c out) =
    by-given (Grown w) w (get_elem? w.receiving.requests i) (grown-same w w refl refl) (λ p e. grown-same w _ refl refl)
grown-step w (World.send t out) = grown-same w _ refl refl
grown-step w (World.send_packet t out) = grown-same w _ refl refl
grown-step w (World.open_receiver ss) = grown-same w _ refl refl
grown-step w World.connect = grown-same w _ refl refl
grown-step w (World.request_login t c out) = grown-same w _ refl refl
grown-step w (World.confirm_login i) =
    by-given (Grown w) w (get_elem? w.serving.answers i) (grown-same w w refl refl)
    (λ x e. record { handed = ([], sym (append-nil w.receiving.handed)); reports = (_, refl) })
grown-step w (World.receive i j) =
    by-given (Grown w) w (get_elem? w.serving.transmissions i) (grown-same w w refl refl)
    (λ m e. by-given (Grown w) w (get_elem? m.packets j) (grown-same w w refl refl)
    (λ p f. record { handed = (_, refl); reports = (_, refl) }))

-- ─── What is remembered counts ───

-- Up to the last keeping under its name, the events that count have come to these histories.
record Counted (l : List Happened) (m : Memory Histories) : Type 0 where
  part : List Happened
  up_to : UpTo m.name l part
  counts : List Happened
  effective : Effective part counts
  handed : m.what.handed ≡ handed_in counts
  reports : m.what.reports ≡ reported_in counts

-- Something else happens.
counted-past : (l : List Happened) (x : Happened) (m : Memory Histories) → keeps_as m.name x ≡ false → Counted l m
    → Counted (x ∷ l) m
counted-past l x m q h =
    record {
      part = h.part;
      up_to = past q h.up_to;
      counts = h.counts;
      effective = h.effective;
      handed = h.handed;
      reports = h.reports;
    }

-- ─── The world ───

record Told (w : RewindWorld) (l : List Happened) : Type 0 where
  now : Counting w l
  links : Linked (Counted l) w.checkpoints w.memories

module _ (w : RewindWorld) (l : List Happened) (h : Told w l) where
  -- Nothing of it counts: a refused keeping or return.
  idle : (v : RewindWorld) → v.now.receiving.handed ≡ w.now.receiving.handed
      → v.now.receiving.reports ≡ w.now.receiving.reports → v.checkpoints ≡ w.checkpoints
      → v.memories ≡ w.memories → Told v (did [] [] ∷ l)
  idle v a b c d =
      let n = h.now in
      record {
        now =
            record {
              counts = did [] [] ∷ n.counts;
              effective = with-did n.effective;
              handed = a ∙ n.handed ∙ sym (append-nil (handed_in n.counts));
              reports = b ∙ n.reports ∙ sym (append-nil (reported_in n.counts));
            };
        links = rw (c, d) (linked_on _ _ w.checkpoints w.memories (λ m. counted-past l _ m refl) h.links);
      }

  called : (e : Event) → Told (rewind_step w (call e)) (happened w (call e) ∷ l)
  called e =
      let n = h.now in
      let g = grown-step w.now e in
      let a = since-is w.now.receiving.handed (step w.now e).receiving.handed g.handed.0 g.handed.1 in
      let b =
      since-is w.now.receiving.reports (step w.now e).receiving.reports g.reports.0 g.reports.1 in
      record {
        now =
            record {
              counts = happened w (call e) ∷ n.counts;
              effective = with-did n.effective;
              handed = g.handed.1 ∙ ap (λ x. x ++ g.handed.0) n.handed
                  ∙ ap (λ x. handed_in n.counts ++ x) (sym a);
              reports = g.reports.1 ∙ ap (λ x. x ++ g.reports.0) n.reports
                  ∙ ap (λ x. reported_in n.counts ++ x) (sym b);
            };
        links = linked_on _ _ w.checkpoints w.memories (λ m. counted-past l _ m refl) h.links;
      }

  saved : (name : List ℕ) (r : Left Checkpoints Saved) → Keeps-as w.checkpoints w.now.receiving.end name r
      → Told (after_keep w name r)
      (cond (is_taken (saved_said r.answer)) (kept name) (did [] []) ∷ l)
  saved name r (Keeps-as.refuses x) = idle (after_keep w name r) refl refl refl refl
  saved name r (keeps a room) =
      let n = h.now in
      record {
        now =
            record {
              counts = kept name ∷ n.counts;
              effective = with-kept n.effective;
              handed = n.handed;
              reports = n.reports;
            };
        links =
            linked-keep _ w.checkpoints w.memories h.links (remember name w.now.receiving) a room _
            (λ m q. counted-past l _ m q)
            (record {
              part = kept name ∷ l;
              up_to = here name refl;
              counts = kept name ∷ n.counts;
              effective = with-kept n.effective;
              handed = n.handed;
              reports = n.reports;
            });
      }

  brought : (name : List ℕ) (r : Left Receiver Restored) → Restores-as w.checkpoints w.now.receiving.end name r
      → Told (after_restore w name r)
      (cond (is_taken (restored_said r.answer)) (back name) (did [] []) ∷ l)
  brought name r (Restores-as.refuses x) = idle (after_restore w name r) refl refl refl refl
  brought name r (restores a u) =
      let t = h.links.each name a u in
      let c = t.holds in
      let up : UpTo name l c.part = rw t.named at c.up_to in
      let f = t.found (remember name w.now.receiving) in
      record {
        now =
            record {
              counts = c.counts;
              effective = returned up c.effective;
              handed = ap (λ (m : Memory Histories). m.what.handed) f ∙ c.handed;
              reports = ap (λ (m : Memory Histories). m.what.reports) f ∙ c.reports;
            };
        links = linked_on _ _ w.checkpoints w.memories (λ m. counted-past l _ m refl) h.links;
      }

  told-step : (e : RewindEvent) → Told (rewind_step w e) (happened w e ∷ l)
  told-step (call e) = called e
  told-step (keep name) = saved name _ (keep-as w.checkpoints w.now.receiving.end name)
  told-step (restore name) = brought name _ (restore-as w.checkpoints w.now.receiving.end name)

told-run : (w : RewindWorld) (l : List Happened) → Told w l → (es : List RewindEvent)
    → Told (rewind_run w es) (happenings w l es)
told-run w l h [] = h
told-run w l h (e ∷ es) = told-run (rewind_step w e) (happened w e ∷ l) (told-step w l h e) es

told-start : (log buffer : List ℕ) → Told (rewind_start log buffer) []
unfolding rewind_start World.start
told-start log buffer =
    record {
      now = record { counts = []; effective = nothing; handed = refl; reports = refl };
      links = linked-fresh _ fresh-four;
    }

-- ─── There is one ───

up-once : (name : List ℕ) (l a b : List Happened) → UpTo name l a → UpTo name l b → a ≡ b
up-once name l a b (here n p) (here m q) = refl
up-once name l a b (here n p) (past q y) = clash _ (same_of n name p) q
up-once name l a b (past p x) (here n q) = clash _ (same_of n name q) p
up-once name l a b (past {l = k} p x) (past q y) = up-once name k a b x y

once : (l m n : List Happened) → Effective l m → Effective l n → m ≡ n
once l m n nothing nothing = refl
once l m n (with-did a) (with-did b) = rw (once _ _ _ a b)
once l m n (with-kept a) (with-kept b) = rw (once _ _ _ a b)
once l m n (returned {k = i} {name = name} x a) (returned {k = j} y b) =
    let q = up-once name _ i j x y in
    once i m n a (rw (← q) at b)

pub effective-histories : EffectiveHistories
effective-histories =
    record {
      histories = λ log buffer es. (told-run (rewind_start log buffer) [] (told-start log buffer) es).now;
      once = once;
    }
