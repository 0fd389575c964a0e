-- Ask, row by row: what the code did is what `request_login_of` says. 8 to 10 are tested on the content alone, without
-- the start field behind it. Over plain variables. Assumes nothing.
use Prim.Native.Nat.{ℕ, ◌<◌, ◌≤◌}
use native.Mathlib.Omega.{arith}
use mathlib.Core.Path.{◌≡◌, refl, sym, ap, ◌∙◌}
use mathlib.Core.List.{List, ◌++◌}
use mathlib.Core.Bool.{Bool, true, false, cond, not, ◌||◌}
use borrow.Author.Tests.{ltb-false, lt-ltb, le-ltb}
use lib.ListN.{length, get_or}
use lib.Dec.{ltb}
use Rattle.ftd.specs.Fields.{shaped, count_of}
use Rattle.ftd.specs.Items.{wrong_width, wrong_item}
use Rattle.ftd.specs.Composition.{composed}
use Rattle.ftd.specs.Content.{content_check}
use Rattle.ftd.specs.Resume.{resume_bytes}
use Rattle.ftd.specs.Login.{login_bytes, login_verdict}
use Rattle.ftd.specs.Write.{fine, written_answer, written_output}
use Rattle.ftd.specs.declared.refusal.Refusal.{Refusal}
use Rattle.ftd.specs.declared.refusal.Refusal.TheVariants.{FieldRun, FieldLength, Item, Composition, UnknownSeries}
use Rattle.ftd.specs.declared.refusal.Refusal.TheVariants.{TooSmall}
use Rattle.ftd.specs.declared.composition.Direction.TheVariants.{Up}
use Rattle.ftd.specs.Types.{Checked}
use Rattle.ftd.specs.Types.{Written}
use Rattle.ftd.proofs.chain.Singles.{shaped-ended}
use Rattle.ftd.proofs.resume.Content.{start-widths, start-item, start-composed}
use Rattle.flow.specs.Types.{SeriesPlace}
use Rattle.flow.specs.declared.receiver.KeptSeries.{KeptSeries}
use Rattle.flow.specs.declared.receiver.Receiver.{Receiver}
use Rattle.flow.specs.Types.{Requested}
use Rattle.flow.specs.Answers.{requested_said}
use Rattle.flow.specs.Ends.{◌when◌else◌, Wrote, wrote, over, is_open, kept_of, new_kept}
use Rattle.flow.specs.Receiving.{next_wanted, request_of, request_bytes, request_login_of}
use Rattle.flow.specs.Promises.{Asks}
use Rattle.flow.specs.Helpers.{FindsKept}
use Rattle.flow.specs.RequestHelpers.{request_for, request_at}
use Rattle.flow.proofs.common.Contents.{on_check, content-rows, content-shaped}
use Rattle.flow.proofs.common.Writers.{fine-answer, fine-output}
use Rattle.flow.proofs.receiver.Lookups.{found_at, kept_at}
use Rattle.std.specs.Prelude.{Some, None, Ok, Err}
use Rattle.std.specs.Result.{result_or}
use Rattle.ftd.specs.Types.{some_start}
use Rattle.ftd.specs.declared.write.WriteError.TheVariants.{Refused}

-- ─── The request written ───

module _ (e : Receiver) (i s : ℕ) (content out after : List ℕ) (w : Written) (number : ℕ) where
  abbrev one : KeptSeries
  one = get_or e.kept.series i (new_kept 0)

  abbrev bytes : List ℕ
  bytes = request_for one s content

  abbrev row : Bool → Wrote Receiver Requested
  row b = cond b (wrote e (Err TooSmall) out) (wrote e (Ok (length bytes)) (over bytes out))

  written : (b : Bool) → w ≡ cond b (Err (Refused TooSmall)) (Ok (length bytes)) → after ≡ cond b out (over bytes out)
      → (r : Requested) → r ≡ result_or w (Err TooSmall) → wrote e r after ≡ row b
  written true a o r p = rw (p, a, o)
  written false a o r p = rw (p, a, o)

  module _ (shape : shaped content 4068 ≡ true) (next : number ≡ next_wanted one.last)
      (a : w ≡ written_answer (login_verdict content (some_start s number))
      (login_bytes one.date (content ++ resume_bytes s number)) out)
      (o : after ≡ written_output (login_verdict content (some_start s number))
      (login_bytes one.date (content ++ resume_bytes s number)) out) where
    passes : login_verdict content (some_start s number) ≡ fine
    unfolding login_verdict
    passes = rw shape

    request : login_bytes one.date (content ++ resume_bytes s number) ≡ bytes
    unfolding request_for
    request = rw next

    answered : w ≡ cond (ltb (length out) (length bytes)) (Err (Refused TooSmall)) (Ok (length bytes))
    answered = (rw request at a) ∙ fine-answer (login_verdict content (some_start s number)) passes bytes out

    put-out : after ≡ cond (ltb (length out) (length bytes)) out (over bytes out)
    put-out = (rw request at o) ∙ fine-output (login_verdict content (some_start s number)) passes bytes out

    pub request-written : (r : Requested) → r ≡ result_or w (Err TooSmall)
        → wrote e r after ≡ request_at e i s content out
    unfolding request_at
    request-written = written (ltb (length out) (length bytes)) answered put-out

-- ─── The rows ───

module _ (e : Receiver) (s : ℕ) (content out : List ℕ) where
  abbrev refused : Refusal → Wrote Receiver Requested
  refused r = wrote e (Err r) out

  -- What is left from 13 on.
  abbrev rest : Wrote Receiver Requested
  rest =
      refused UnknownSeries when not (is_open e s) else
      refused TooSmall when ltb (length out) (length (request_bytes e s content)) else
      wrote e (Ok (length (request_bytes e s content))) (over (request_bytes e s content) out)

  module _ (a : shaped content 4068 ≡ true) where
    -- 10 with the start field: no other one, and make-up of the content alone.
    made_up : (b : Bool) → ltb 0 (count_of 4 content) ≡ b → (w : Wrote Receiver Requested)
        → (refused Composition when b || not (composed 22 Up (request_of e s content)) else w)
        ≡ (refused Composition when not (composed 22 Up content) else refused Composition when b else w)
    unfolding request_of
    made_up true p w = go (composed 22 Up content)
      where
        go : (c : Bool) → refused Composition ≡ (refused Composition when not c else refused Composition)
        go true = refl
        go false = refl
    made_up false p w =
        let z : count_of 4 content ≡ 0 = let n = ltb-false 0 (count_of 4 content) p in omega arith in
        rw (start-composed content s (next_wanted (kept_of e s).last) (shaped-ended content 4068 a) z)

    -- 8 to 10 with the start field, and behind them 13.
    checked-rows : (w : Wrote Receiver Requested)
        → (refused FieldLength when wrong_width (request_of e s content) else
        refused Item when wrong_item (request_of e s content) else
        refused Composition when ltb 0 (count_of 4 content) || not (composed 22 Up (request_of e s content)) else w)
        ≡ (refused FieldLength when wrong_width content else
        refused Item when wrong_item content else
        refused Composition when not (composed 22 Up content) else
        refused Composition when ltb 0 (count_of 4 content) else w)
    unfolding request_of
    checked-rows w =
        let whole = shaped-ended content 4068 a in
        let n = next_wanted (kept_of e s).last in
        rw (start-widths content s n whole, start-item content s n whole)
        (ap (λ (x : Wrote Receiver Requested). refused FieldLength when wrong_width content else
        refused Item when wrong_item content else x)
        (made_up (ltb 0 (count_of 4 content)) refl w))

  -- The definition of Ask, by the content check of ftd.
  ask-rows : request_login_of e s content out ≡ on_check refused
      (refused Composition when ltb 0 (count_of 4 content) else rest) (content_check 22 Up content 4068)
  unfolding request_login_of
  ask-rows =
      go (shaped content 4068) refl
      ∙ content-rows 22 Up content 4068 refused (refused Composition when ltb 0 (count_of 4 content) else rest)
    where
      go : (b : Bool) → shaped content 4068 ≡ b
          → (refused FieldRun when not b else
          refused FieldLength when wrong_width (request_of e s content) else
          refused Item when wrong_item (request_of e s content) else
          refused Composition when ltb 0 (count_of 4 content) || not (composed 22 Up (request_of e s content)) else rest)
          ≡ (refused FieldRun when not b else
          refused FieldLength when wrong_width content else
          refused Item when wrong_item content else
          refused Composition when not (composed 22 Up content) else
          refused Composition when ltb 0 (count_of 4 content) else rest)
      go true p = checked-rows p rest
      go false p = refl

  -- What is left is the definition's: so are its parts.
  asks : (r : Requested) (after : List ℕ) → wrote e r after ≡ request_login_of e s content out
      → Asks e s content out r after
  asks r after x = (
    (
      ap (λ (w : Wrote Receiver Requested). requested_said w.answer) x,
      ap (λ (w : Wrote Receiver Requested). w.answer) x,
    ),
    ap (λ (w : Wrote Receiver Requested). w.bytes) x,
  )

  -- ─── Each way through the code ───

  module _ (v : Checked) (p : v ≡ content_check 22 Up content 4068) where
    pub ask-content : (r : Refusal) → v ≡ Err r → Asks e s content out (Err r) out
    ask-content r x = asks _ _ (rw (ask-rows, ← p, x))

    -- What passed is whole fields.
    pub content-whole : v ≡ (Ok tt) → shaped content 4068 ≡ true
    content-whole x = content-shaped 22 Up content 4068 (sym p ∙ x)

    module _ (y1 : v ≡ (Ok tt)) (n : ℕ) (k : n ≡ count_of 4 content) where
      pub ask-started : 0 < n → Asks e s content out (Err Composition) out
      ask-started x = asks _ _ (rw (ask-rows, ← p, y1, ← k, lt-ltb 0 n x))

      module _ (y2 : n ≤ 0) (f : SeriesPlace) (g : FindsKept e s f) where
        pub ask-unknown : f ≡ None → Asks e s content out (Err UnknownSeries) out
        ask-unknown x = let u = rw x at g in asks _ _ (rw (ask-rows, ← p, y1, ← k, le-ltb 0 n y2, u))

        pub ask-found : (i : ℕ) → f ≡ Some i → (r : Requested) (after : List ℕ)
            → wrote e r after ≡ request_at e i s content out → Asks e s content out r after
        unfolding request_at request_for request_bytes request_of
        ask-found i y3 r after x =
            let u = found_at e s f i g y3 in
            let z = rw (kept_at e s i u.1) at x in
            asks r after (rw (ask-rows, ← p, y1, ← k, le-ltb 0 n y2, u.0) z)
