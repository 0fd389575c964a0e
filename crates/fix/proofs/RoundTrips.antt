-- Both round trips of a frame. Assumes nothing.
use Prim.Native.Nat.{ℕ, ◌+◌, ◌-◌, ◌≤◌}
use mathlib.Core.Path.{◌≡◌, refl, sym, ap, ◌∙◌}
use mathlib.Core.List.{List, ◌++◌}
use mathlib.Core.Bool.{true, false, cond, ◌&&◌, not}
use native.Mathlib.Omega.{arith}
use borrow.Author.Tests.{le-ltb, ltb-false, not-true, eq-eqb, ne_eqb, eqb-true, eqb-false}
use lib.ListN.{length, take, drop, length-drop}
use lib.Seq.{take-append_seam, length-take-le}
use lib.Dec.{ltb, eqb}
use Rattle.ftd.specs.Bytes.{part}
use Rattle.ftd.specs.Packet.{span}
use Rattle.ftd.specs.declared.packet.Span.{Span}
use Rattle.ftd.specs.declared.refusal.Refusal.{Refusal}
use Rattle.ftd.specs.declared.refusal.Refusal.TheVariants.{NotOneFrame, RequiredTag, TooSmall}
use Rattle.ftd.specs.Types.{Written}
use Rattle.fix.specs.Text.{soh, until}
use Rattle.fix.specs.Kinds.{kind_of}
use Rattle.fix.specs.Fields.{fields_of, is_whole, says_yes}
use Rattle.fix.specs.Check.{wrong_numbers, wrong_tags}
use Rattle.fix.specs.Frame.{body_length, frame_bytes, is_name, is_framed, frame_of}
use Rattle.fix.specs.Read.{message_of, checked_of, judged_of, read_of}
use Rattle.fix.specs.Write.{write_answer, write_output}
use Rattle.fix.specs.RoundTrips.{text_at, ReadsAs, RoundTrips}
use Rattle.fix.proofs.frame.Words.{and_both, first_taken, other-taken, until-before}
use Rattle.fix.proofs.frame.Outlines.{Outlined, outlined, Whole, whole, digits, type_bytes, name-there, frame_same}
use Rattle.fix.proofs.frame.Laid.{digits_of, name-part, fields-part, frame_found}
use Rattle.std.specs.Prelude.{Ok, Err}
use Rattle.fix.specs.Types.{some_frame}
use Rattle.ftd.specs.declared.write.WriteError.TheVariants.{Refused}

-- ─── What is read ───

-- The type of a frame.
module _ (b : List ℕ) (name_at fields_at : Span) (framed : frame_of b ≡ some_frame name_at fields_at) where
  pub cut_of : Whole b name_at fields_at
  cut_of = whole b name_at fields_at framed

  pub tests-of : Outlined b name_at fields_at
  tests-of = outlined name_at fields_at b cut_of.outline

  type-is : text_at b name_at ≡ take (type_bytes b) (drop (16 + digits b) b)
  type-is =
      ap (λ (s : Span). part b s.start s.len) tests-of.name_is ∙ name-there b (digits b) (type_bytes b)

  type-bytes : length (text_at b name_at) ≡ type_bytes b
  type-bytes =
      let t = tests-of in
      let m : length (drop (16 + digits b) b) ≡ length b - (16 + digits b) = length-drop (16 + digits b) b in
      ap length type-is
      ∙ length-take-le (type_bytes b) (drop (16 + digits b) b) (omega (arith, m, t.fits, t.room))

  pub type-right : is_name (text_at b name_at) ≡ true
  unfolding is_name
  type-right =
      let name = text_at b name_at in
      let e : until soh name ≡ length name = rw type-is (until-before soh (drop (16 + digits b) b)) in
      rw (
        ne_eqb (length name) 0 (λ z. tests-of.some (sym type-bytes ∙ z)),
        eq-eqb (until soh name) (length name) e,
      )

module _ (b name run : List ℕ) (r : ReadsAs b name run) where
  cut : Whole b r.name_at r.fields_at
  cut = cut_of b r.name_at r.fields_at r.framed

  tests : Outlined b r.name_at r.fields_at
  tests = tests-of b r.name_at r.fields_at r.framed

  same : b ≡ frame_bytes name run
  same = rw (r.same_name, r.same_fields) at (frame_same b r.name_at r.fields_at tests)

  name-right : is_name name ≡ true
  name-right = rw r.same_name at (type-right b r.name_at r.fields_at r.framed)

  framed-right : is_framed name run ≡ true
  unfolding is_framed
  framed-right =
      let w : is_whole run ≡ true = rw r.same_fields at cut.cut in
      rw (name-right, w, ← same, le-ltb 4096 (length b) tests.most)

  answer : (room : ℕ) → length b ≤ room → write_answer name run room ≡ Ok (length b)
  unfolding write_answer
  answer room h = rw (framed-right, r.numbers, ← same, le-ltb room (length b) h, r.tags)

  again : (out : List ℕ) → length b ≤ length out
      → (write_answer name run (length out) ≡ Ok (length b)) × (write_output name run out ≡ b ++ drop (length b) out)
  unfolding write_output
  again out h = (answer (length out) h, rw (answer (length out) h, ← same))

  judged : (expected : ℕ)
      → read_of b expected ≡ judged_of (message_of b r.name_at r.fields_at) (says_yes 43 (fields_of run)) expected
  unfolding read_of checked_of message_of
  judged expected = rw (r.framed, r.same_name, r.same_fields, r.numbers, r.tags)

-- ─── What is written ───

never-bytes : (x : Refusal) (n : ℕ) → Err (Refused x) ≡ Ok n → ⊥
never-bytes x n e = let z : ◌≡◌ {A = ℕ} 0 1 = cc in omega arith

pub record Passed (name run : List ℕ) (n : ℕ) : Type 0 where
  pub framed : is_framed name run ≡ true
  pub numbers : wrong_numbers (kind_of name) (fields_of run) ≡ false
  pub tags : wrong_tags (kind_of name) (fields_of run) ≡ false
  pub counted : n ≡ length (frame_bytes name run)

pub passed : (name run : List ℕ) (room n : ℕ) → write_answer name run room ≡ Ok n → Passed name run n
unfolding write_answer
passed name run room n e =
    let last : Written = Ok (length (frame_bytes name run)) in
    let tagged = cond (wrong_tags (kind_of name) (fields_of run)) (Err (Refused RequiredTag)) last in
    let fits = cond (ltb room (length (frame_bytes name run))) (Err (Refused TooSmall)) tagged in
    let numbered = cond (wrong_numbers (kind_of name) (fields_of run)) (Err (Refused NotOneFrame)) fits in
    let x =
    first_taken numbered (Err (Refused NotOneFrame)) (Ok n) (is_framed name run) (never-bytes NotOneFrame n) e in
    let y =
    other-taken (Err (Refused NotOneFrame)) fits (Ok n) (wrong_numbers (kind_of name) (fields_of run))
    (never-bytes NotOneFrame n) x.1 in
    let z =
    other-taken (Err (Refused TooSmall)) tagged (Ok n) (ltb room (length (frame_bytes name run))) (never-bytes TooSmall n)
    y.1 in
    let w =
    other-taken (Err (Refused RequiredTag)) last (Ok n) (wrong_tags (kind_of name) (fields_of run))
    (never-bytes RequiredTag n) z.1 in
    let k : Ok (length (frame_bytes name run)) ≡ Ok n = w.1 in
    record { framed = x.0; numbers = y.0; tags = w.0; counted = cc }

pub record Named (name : List ℕ) : Type 0 where
  pub some : length name ≡ 0 → ⊥
  pub plain : until soh name ≡ length name

pub named : (name : List ℕ) → is_name name ≡ true → Named name
unfolding is_name
named name e =
    let f : false ≡ true → ⊥ = λ q. let z : ◌≡◌ {A = ℕ} 0 1 = cc in omega arith in
    let x = other-taken false (eqb (until soh name) (length name)) true (eqb (length name) 0) f e in
    record { some = eqb-false (length name) 0 x.0; plain = eqb-true (until soh name) (length name) x.1 }

pub framed-parts : (name run : List ℕ) → is_framed name run ≡ true
    → Named name × (is_whole run ≡ true) × (length (frame_bytes name run) ≤ 4096)
unfolding is_framed
framed-parts name run e =
    let long = ltb 4096 (length (frame_bytes name run)) in
    let x = and_both (is_name name) (is_whole run && not long) e in
    let y = and_both (is_whole run) (not long) x.1 in
    (named name x.0, y.0, ltb-false 4096 (length (frame_bytes name run)) (not-true long y.1))

frame-reads : (b name run : List ℕ) (n : ℕ) → b ≡ frame_bytes name run → Passed name run n → ReadsAs b name run
frame-reads b name run n same p =
    let x = framed-parts name run p.framed in
    let m : Named name = x.0 in
    let d = length (digits_of name run) in
    let s = body_length name run in
    record {
      name_at = span (13 + d + 3) (length name);
      fields_at = span (13 + d + 4 + length name) (s - (4 + length name));
      framed = frame_found b name run same d refl s refl (rw same x.2) m.some m.plain x.1;
      same_name = name-part b name run same d refl s refl;
      same_fields = fields-part b name run same d refl s refl;
      numbers = p.numbers;
      tags = p.tags;
    }

back : (name run out : List ℕ) (n : ℕ) → write_answer name run (length out) ≡ Ok n
    → ReadsAs (take n (write_output name run out)) name run
unfolding write_output
back name run out n e =
    let p = passed name run (length out) n e in
    let k : take n (write_output name run out) ≡ frame_bytes name run =
    rw (e, p.counted) (take-append_seam (frame_bytes name run) (drop (length (frame_bytes name run)) out)) in
    frame-reads (take n (write_output name run out)) name run n k p

pub round-trips : RoundTrips
round-trips =
    record {
      same = same;
      again = λ b name run out r h. again b name run r out h;
      back = back;
      refuses = λ name run out r h. answer (frame_bytes name run) name run r (length out) h;
      judged = λ b name run expected r. judged b name run r expected;
    }
