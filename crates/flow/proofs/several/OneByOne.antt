-- Called until it is through, the call for several gives what the single call gives for each. Assumes nothing.
use Prim.Native.Nat.{ℕ, zero, suc, ◌+◌, ◌-◌, ◌<◌, ◌≤◌}
use mathlib.Core.Path.{◌≡◌, refl, sym, ap, ◌∙◌}
use mathlib.Core.List.{List, [], ◌∷◌, ◌++◌, map, append_assoc, append-nil}
use mathlib.Core.Bool.{Bool, true, false, cond}
use mathlib.Core.Option.{Option, none, some}
use native.Mathlib.Omega.{arith}
use lib.ListN.{length, take, drop, length-drop, length-append}
use lib.Seq.{take-append_seam}
use lib.Dec.{eqb}
use Rattle.ftd.specs.Bytes.{joined}
use Rattle.ftd.specs.Runs.{front, Run, in_front, run_of}
use Rattle.ftd.proofs.runs.Joined.{Local, run-behind, run-entries}
use Rattle.ftd.proofs.runs.Laws.{run-joined, run-over, run-next, entry-inside, entry-head, entry_length}
use Rattle.flow.specs.Answers.{Said}
use Rattle.flow.specs.Several.{Told, end, short, stopped, Repeated, Took, took, stop_or, rest_of, walk_over}
use Rattle.flow.specs.Several.{several_of}
use Rattle.flow.specs.Bufferful.{saying, each, is_handed, handed_out, Through, onward, calls, last_told, StoppedAt}
use Rattle.flow.specs.Bufferful.{all_but_last, read_on, in_reads, OneByOne}
use Rattle.flow.proofs.several.Walks.{walk-over, walk-next}

-- What has to be known of a single call: where it goes on nothing is handed out, and where it stops the answer tells
-- what was said.
abbrev pub StopFits : {E A B : Type 0} → Repeated E A B → List ℕ → List ℕ → Said → Option B → Type 0
StopFits R s after a none = is_handed a ≡ false
StopFits R s after a (some b) = (is_handed a ≡ true) × (R.told s after b ≡ stopped a)

pub record Fits {E A B : Type 0} (R : Repeated E A B) : Type 0 where
  pub some-head : 0 < R.form.head
  pub stop : (e : E) (s l : List ℕ) (at n : ℕ) →
      let x = take n (drop at s) in
      let r = R.call e x l in
      StopFits R s r.bytes (R.said x r.bytes r.answer) (R.stops at r.answer)
  pub ended : (s l : List ℕ) → R.told s l R.ended ≡ end
  pub cut : (s l : List ℕ) (n : ℕ) → R.told s l (R.cut n) ≡ short n
  pub local : Local R.form

module _ {E A B : Type 0} (R : Repeated E A B) (f : Fits R) where
  -- What the single call for each comes to, as what calls until through leave.
  abbrev final : E → List ℕ → Run → Through E
  final e l run =
      let single = each R e l run.entries in
      record {
        end = single.end;
        bytes = single.bytes;
        rest = run.rest;
        answers = map stopped (handed_out single.said) ++ (last_told R run.rest ∷ []);
      }

  module _ (s : List ℕ) (more : E → List ℕ → List ℕ → Through E)
      (ih : (e : E) (l : List ℕ) (at : ℕ) → 0 < at → at ≤ length s
      → more e (drop at s) l ≡ final e l (run_of R.form (drop at s))) where
    -- A call's outcome, and those behind it.
    abbrev goes : Took E B → Through E
    goes t = onward more s t (R.told s t.bytes t.answer)

    goes-rest : (e : E) (l : List ℕ) (at : ℕ) (rest : List ℕ) → rest ≡ drop at s
        → goes (took e (rest_of R rest) l at) ≡ final e l (record { entries = []; rest = rest })
    goes-rest e l at rest q = go (eqb (length rest) 0)
      where
        go : (b : Bool)
            → goes (took e (cond b R.ended (R.cut (R.missing rest))) l at)
            ≡ record { end = e; bytes = l; rest = rest; answers = cond b end (short (R.missing rest)) ∷ [] }
        go true = rw (f.ended s l, q)
        go false = rw (f.cut s l (R.missing rest), q)

    -- An input, by what its call said.
    goes-input : (e : E) (l x : List ℕ) (at n : ℕ) (run : Run) (o : Option B) →
        let r = R.call e x l in
        StopFits R s r.bytes (R.said x r.bytes r.answer) o
        → goes (walk_over R r.end r.bytes (at + n) run) ≡ final r.end r.bytes run
        → more r.end (drop (at + n) s) r.bytes ≡ final r.end r.bytes run
        → goes
        (stop_or o (λ b. took r.end b r.bytes (at + n)) (walk_over R r.end r.bytes (at + n) run))
        ≡ final e l (in_front x run)
    goes-input e l x at n run none h on behind = rw h on
    goes-input e l x at n run (some b) h on behind = rw (h.0, h.1, behind)

    goes_on : (most : ℕ) (e : E) (l : List ℕ) (at : ℕ) → at ≤ length s → length s - at < most
        → goes (walk_over R e l at (run_of R.form (drop at s))) ≡ final e l (run_of R.form (drop at s))
    goes_on zero e l at h k = absurd (omega arith)
    goes_on (suc most) e l at h k = go (front R.form (drop at s)) refl (λ d g to p q. goes_on most d g to p q)
      where
        go : (n : ℕ) → n ≡ front R.form (drop at s)
            → ((d : E) (g : List ℕ) (to : ℕ) → to ≤ length s → length s - to < most
            → goes (walk_over R d g to (run_of R.form (drop to s))) ≡ final d g (run_of R.form (drop to s)))
            → goes (walk_over R e l at (run_of R.form (drop at s))) ≡ final e l (run_of R.form (drop at s))
        go zero m on =
            ap goes (walk-over R f.some-head s at 0 m e l refl)
            ∙ goes-rest e l at (drop at s) refl
            ∙ ap (final e l) (sym (run-over R.form f.some-head s at 0 m refl))
        go (suc j) m on =
            let some : suc j ≡ 0 → ⊥ = λ z. omega arith in
            let x = take (suc j) (drop at s) in
            let r = R.call e (take (suc j) (drop at s)) l in
            let inside = entry-inside R.form f.some-head s at (suc j) m in
            ap goes (walk-next R f.some-head s at (suc j) m e l some)
            ∙ goes-input e l x at (suc j) (run_of R.form (drop (at + suc j) s)) (R.stops at r.answer)
            (f.stop e s l at (suc j))
            (on r.end r.bytes (at + suc j) (omega (arith, inside)) (omega (arith, inside)))
            (ih r.end r.bytes (at + suc j) (omega arith) (omega (arith, inside)))
            ∙ ap (final e l) (sym (run-next R.form f.some-head s at (suc j) m some))

  calls-final : (most : ℕ) (e : E) (s l : List ℕ) → length s < most
      → calls most R e s l ≡ final e l (run_of R.form s)
  unfolding several_of
  calls-final zero e s l h = absurd (omega arith)
  calls-final (suc most) e s l h =
      goes_on s (calls most R)
      (λ d g at p q. calls-final most d (drop at s) g (rw length-drop (omega arith)))
      (suc (length s)) e l 0 (omega arith) (omega arith)

  -- ─── Read in pieces ───

  -- The single call for some inputs and then for others.
  each_append : (e : E) (l : List ℕ) (xs ys : List (List ℕ)) →
      let first = each R e l xs in
      let second = each R first.end first.bytes ys in
      each R e l (xs ++ ys)
      ≡ record { end = second.end; bytes = second.bytes; said = first.said ++ second.said }
  each_append e l [] ys = refl
  each_append e l (x ∷ xs) ys =
      let r = R.call e x l in
      ap (saying (R.said x r.bytes r.answer)) (each_append r.end r.bytes xs ys)

  handed-append : (l m : List Said) → handed_out (l ++ m) ≡ handed_out l ++ handed_out m
  handed-append [] m = refl
  handed-append (a ∷ l) m = go (is_handed a) (handed-append l m)
    where
      go : (b : Bool) → handed_out (l ++ m) ≡ handed_out l ++ handed_out m
          → cond b (a ∷ handed_out (l ++ m)) (handed_out (l ++ m))
          ≡ cond b (a ∷ handed_out l) (handed_out l) ++ handed_out m
      go true q = ap (λ (t : List Said). a ∷ t) q
      go false q = q

  map-append : (l m : List Said) → map stopped (l ++ m) ≡ map stopped l ++ map stopped m
  map-append [] m = refl
  map-append (a ∷ l) m = ap (λ (t : List Told). stopped a ∷ t) (map-append l m)

  but_last : (l : List Told) (t : Told) → all_but_last (l ++ (t ∷ [])) ≡ l
  but_last l t =
      let n : length (l ++ (t ∷ [])) - 1 ≡ length l = omega (arith, length-append l (t ∷ [])) in
      ap (λ (k : ℕ). take k (l ++ (t ∷ []))) n ∙ take-append_seam l (t ∷ [])

  -- The bytes behind others are cut as those that the first cutting left with them behind it.
  cut-across : (a b : List ℕ) →
      let first = run_of R.form a in
      let second = run_of R.form (first.rest ++ b) in
      run_of R.form (a ++ b) ≡ record { entries = first.entries ++ second.entries; rest = second.rest }
  cut-across a b =
      let first = run_of R.form a in
      ap (λ (t : List ℕ). run_of R.form (t ++ b)) (sym (run-joined R.form a))
      ∙ ap (run_of R.form) (append_assoc (joined first.entries) first.rest b)
      ∙ run-behind R.form f.some-head first.entries (run-entries R.form f.some-head f.local a)
      (first.rest ++ b)

  final-append : (e : E) (l : List ℕ) (xs : List (List ℕ)) (rest : List ℕ) (run : Run) →
      let first = final e l (record { entries = xs; rest = rest }) in
      read_on first (final first.end first.bytes run)
      ≡ final e l (record { entries = xs ++ run.entries; rest = run.rest })
  final-append e l xs rest run =
      let one = each R e l xs in
      let two = each R one.end one.bytes run.entries in
      rw (
        each_append e l xs run.entries,
        but_last (map stopped (handed_out one.said)) (last_told R rest),
        handed-append one.said two.said,
        map-append (handed_out one.said) (handed_out two.said),
        append_assoc (map stopped (handed_out one.said)) (map stopped (handed_out two.said))
            (last_told R run.rest ∷ []),
      )

  read-across : (e : E) (a b l : List ℕ) (n k : ℕ) (first : Through E) → first ≡ final e l (run_of R.form a)
      → length (first.rest ++ b) < n → length (a ++ b) < k
      → read_on first (calls n R first.end (first.rest ++ b) first.bytes) ≡ calls k R e (a ++ b) l
  read-across e a b l n k first q h g =
      let run = run_of R.form a in
      ap (read_on first) (calls-final n first.end (first.rest ++ b) first.bytes h)
      ∙ ap (λ (t : Through E). read_on t (final t.end t.bytes (run_of R.form (t.rest ++ b)))) q
      ∙ final-append e l run.entries run.rest (run_of R.form (run.rest ++ b))
      ∙ ap (final e l) (sym (cut-across a b))
      ∙ sym (calls-final k e (a ++ b) l g)

  rest-inside : (a : List ℕ) → length (run_of R.form a).rest ≤ length a
  rest-inside a =
      let run = run_of R.form a in
      omega (arith, ap length (run-joined R.form a), length-append (joined run.entries) run.rest)

  read-each : (most : ℕ) (e : E) (a l : List ℕ) (bs : List (List ℕ)) → length (a ++ joined bs) < most
      → in_reads most R e a l bs ≡ calls most R e (a ++ joined bs) l
  read-each most e a l [] h = ap (λ (t : List ℕ). calls most R e t l) (sym (append-nil a))
  read-each most e a l (b ∷ bs) h =
      let first = calls most R e a l in
      let q = calls-final most e a l (omega (arith, h, length-append a (b ++ joined bs))) in
      let rest = ap (λ (t : Through E). length t.rest) q in
      let small : length (first.rest ++ (b ++ joined bs)) < most =
      omega (
        arith,
        h,
        rest,
        rest-inside a,
        length-append a (b ++ joined bs),
        length-append first.rest (b ++ joined bs),
      ) in
      let again = append_assoc first.rest b (joined bs) in
      ap (read_on first) (read-each most first.end (first.rest ++ b) first.bytes bs (rw again small))
      ∙ ap (λ (t : List ℕ). read_on first (calls most R first.end t first.bytes)) again
      ∙ read-across e a (b ++ joined bs) l most most first q small h

  many-length : (l : List Said) (t : Told) → length (map stopped l ++ (t ∷ [])) ≡ suc (length l)
  many-length [] t = refl
  many-length (a ∷ l) t = ap suc (many-length l t)

  -- ─── What a call takes ───

  module _ (s : List ℕ) where
    abbrev Taken : ℕ → Took E B → Type 0
    Taken at t =
        (t.taken ≤ length s)
        × ((a : Said) → R.told s t.bytes t.answer ≡ stopped a → at + R.form.head ≤ t.taken)

    not_stopped : (t : Told) → t ≡ end → (a : Said) → t ≡ stopped a → ⊥
    not_stopped t p a q = let z : ◌≡◌ {A = ℕ} 0 1 = cc in omega arith

    not-stopped-short : (t : Told) (n : ℕ) → t ≡ short n → (a : Said) → t ≡ stopped a → ⊥
    not-stopped-short t n p a q = let z : ◌≡◌ {A = ℕ} 0 1 = cc in omega arith

    taken-rest : (e : E) (l : List ℕ) (at : ℕ) (rest : List ℕ) → at ≤ length s → Taken at (took e (rest_of R rest) l at)
    taken-rest e l at rest h = go (eqb (length rest) 0)
      where
        go : (b : Bool) → Taken at (took e (cond b R.ended (R.cut (R.missing rest))) l at)
        go true = (h, λ a q. absurd (not_stopped _ (f.ended s l) a q))
        go false = (h, λ a q. absurd (not-stopped-short _ _ (f.cut s l (R.missing rest)) a q))

    taken-input : (e : E) (l : List ℕ) (at n : ℕ) (w : Took E B) (o : Option B) → at + n ≤ length s → R.form.head ≤ n
        → Taken (at + n) w → Taken at (stop_or o (λ b. took e b l (at + n)) w)
    taken-input e l at n w none h k t = (t.0, λ a q. omega (arith, t.1 a q))
    taken-input e l at n w (some b) h k t = (h, λ a q. omega arith)

    taken-on : (most : ℕ) (e : E) (l : List ℕ) (at : ℕ) → at ≤ length s → length s - at < most
        → Taken at (walk_over R e l at (run_of R.form (drop at s)))
    taken-on zero e l at h k = absurd (omega arith)
    taken-on (suc most) e l at h k = go (front R.form (drop at s)) refl (λ d g to p q. taken-on most d g to p q)
      where
        go : (n : ℕ) → n ≡ front R.form (drop at s)
            → ((d : E) (g : List ℕ) (to : ℕ) → to ≤ length s → length s - to < most
            → Taken to (walk_over R d g to (run_of R.form (drop to s))))
            → Taken at (walk_over R e l at (run_of R.form (drop at s)))
        go zero m on = rw (walk-over R f.some-head s at 0 m e l refl) (taken-rest e l at (drop at s) h)
        go (suc j) m on =
            let some : suc j ≡ 0 → ⊥ = λ z. omega arith in
            let r = R.call e (take (suc j) (drop at s)) l in
            let inside = entry-inside R.form f.some-head s at (suc j) m in
            rw (walk-next R f.some-head s at (suc j) m e l some)
            (taken-input r.end r.bytes at (suc j) _ (R.stops at r.answer) (omega (arith, inside))
            (entry-head R.form f.some-head s at (suc j) m some)
            (on r.end r.bytes (at + suc j) (omega (arith, inside)) (omega (arith, inside))))

    taken-all : (e : E) (l : List ℕ) → Taken 0 (several_of R e s l)
    unfolding several_of
    taken-all e l = taken-on (suc (length s)) e l 0 (omega arith) (omega arith)

    -- ─── Where a call stops ───

    -- A call's outcome: where it says that it stopped, it stopped at one of the inputs.
    abbrev Stops : E → List ℕ → ℕ → List (List ℕ) → Took E B → Type 0
    Stops e l at xs t = (a : Said) → R.told s t.bytes t.answer ≡ stopped a → StoppedAt R e l at xs t a

    stops-rest : (e : E) (l : List ℕ) (at : ℕ) (rest : List ℕ) → Stops e l at [] (took e (rest_of R rest) l at)
    stops-rest e l at rest = go (eqb (length rest) 0)
      where
        go : (b : Bool) → Stops e l at [] (took e (cond b R.ended (R.cut (R.missing rest))) l at)
        go true a q = absurd (not_stopped _ (f.ended s l) a q)
        go false a q = absurd (not-stopped-short _ _ (f.cut s l (R.missing rest)) a q)

    same-said : (t : Told) (a b : Said) → t ≡ stopped a → t ≡ stopped b → a ≡ b
    same-said t a b p q = cc

    stops-input : (e : E) (l x : List ℕ) (at n : ℕ) (xs : List (List ℕ)) (w : Took E B) (o : Option B) →
        let r = R.call e x l in
        length x ≡ n → StopFits R s r.bytes (R.said x r.bytes r.answer) o
        → Stops r.end r.bytes (at + n) xs w
        → Stops e l at (x ∷ xs) (stop_or o (λ b. took r.end b r.bytes (at + n)) w)
    stops-input e l x at n xs w none m h on a q =
        let t = on a q in
        record {
          before = x ∷ t.before;
          input = t.input;
          behind = t.behind;
          all = ap (λ (r : List (List ℕ)). x ∷ r) t.all;
          passed = rw h t.passed;
          says = t.says;
          taken = omega (arith, t.taken, m, length-append x (joined t.before));
        }
    stops-input e l x at n xs w (some b) m h on a q =
        record {
          before = [];
          input = x;
          behind = xs;
          all = refl;
          passed = refl;
          says = (refl, refl, same-said _ _ a h.1 q);
          taken = omega (arith, m);
        }

    stops-on : (most : ℕ) (e : E) (l : List ℕ) (at : ℕ) → at ≤ length s → length s - at < most →
        let run = run_of R.form (drop at s) in
        Stops e l at run.entries (walk_over R e l at run)
    stops-on zero e l at h k = absurd (omega arith)
    stops-on (suc most) e l at h k = go (front R.form (drop at s)) refl (λ d g to p q. stops-on most d g to p q)
      where
        go : (n : ℕ) → n ≡ front R.form (drop at s)
            → ((d : E) (g : List ℕ) (to : ℕ) → to ≤ length s → length s - to < most
            → Stops d g to (run_of R.form (drop to s)).entries (walk_over R d g to (run_of R.form (drop to s))))
            → Stops e l at (run_of R.form (drop at s)).entries (walk_over R e l at (run_of R.form (drop at s)))
        go zero m on = rw (run-over R.form f.some-head s at 0 m refl) (stops-rest e l at (drop at s))
        go (suc j) m on =
            let some : suc j ≡ 0 → ⊥ = λ z. omega arith in
            let x = take (suc j) (drop at s) in
            let r = R.call e (take (suc j) (drop at s)) l in
            let run = run_of R.form (drop (at + suc j) s) in
            let inside = entry-inside R.form f.some-head s at (suc j) m in
            let size = entry_length R.form f.some-head s at (suc j) m in
            let next : Stops e l at (x ∷ run.entries) (walk_over R e l at (in_front x run)) =
            rw size (stops-input e l x at (suc j) run.entries
            (walk_over R r.end r.bytes (at + suc j) run) (R.stops at r.answer) size
            (f.stop e s l at (suc j))
            (on r.end r.bytes (at + suc j) (omega (arith, inside)) (omega (arith, inside)))) in
            rw (run-next R.form f.some-head s at (suc j) m some) next

    stops-all : (e : E) (l : List ℕ) → Stops e l 0 (run_of R.form s).entries (several_of R e s l)
    unfolding several_of
    stops-all e l = stops-on (suc (length s)) e l 0 (omega arith) (omega arith)

  pub one_by_one : OneByOne R
  one_by_one =
      record {
        same =
            λ e s l most h.
            let q = calls-final most e s l h in (
              ap (λ (t : Through E). t.end) q,
              ap (λ (t : Through E). t.bytes) q,
              ap (λ (t : Through E). t.rest) q,
              ap (λ (t : Through E). t.answers) q,
            );
        count =
            λ e s l most h.
            ap (λ (t : Through E). length t.answers) (calls-final most e s l h)
            ∙ many-length (handed_out (each R e l (run_of R.form s).entries).said)
            (last_told R (run_of R.form s).rest);
        takes = λ e s l a q. omega (arith, (taken-all s e l).1 a q);
        inside = λ e s l. (taken-all s e l).0;
        across = λ e a b l m n k h. read-across e a b l n k (calls m R e a l) (calls-final m e a l h);
        reads = λ e s l bs most. read-each most e s l bs;
        stops = λ e s l. stops-all s e l;
      }
