-- The layout of records. Assumes nothing.
use Prim.Native.Nat.{ℕ, zero, suc, ◌+◌, ◌/◌, ◌%◌, ◌<◌}
use native.Mathlib.Omega.{arith}
use mathlib.Core.Path.{◌≡◌, refl, sym, ap, ◌∙◌}
use mathlib.Core.List.{List, [], ◌∷◌, ◌++◌, map, append-nil}
use borrow.Author.Tests.{le-leb}
use lib.ListN.{length, take, drop, length-append, length-drop, take-append-drop}
use lib.Seq.{drop-drop}
use Rattle.ftd.specs.Bytes.{be16_of, be32_of, bytes16, bytes32, Bytes, joined}
use Rattle.ftd.specs.Runs.{front, Run, in_front, run_of}
use Rattle.ftd.proofs.bytes.Numbers.{two_bytes, four_bytes}
use Rattle.ftd.proofs.runs.Joined.{Entry, Entries, run-behind, run-of}
use Rattle.flow.specs.declared.sender.Sender.{Sender}
use Rattle.flow.specs.declared.several.PublishedSeveral.{PublishedSeveral}
use Rattle.flow.specs.Ends.{Wrote}
use Rattle.flow.specs.Types.{Published}
use Rattle.flow.specs.Serving.{publish_of}
use Rattle.flow.specs.Several.{Took, took, stop_or, walk_from, walk_over, several_of, record_form, publish_record}
use Rattle.flow.specs.Several.{published_stops, publishing, publish_several_of}
use Rattle.flow.specs.Records.{Publication, record_of, publish_each, RecordLayout}
use Rattle.flow.proofs.several.Published.{some-record}

-- ─── A record is read back, whatever the numbers ───

-- Bytes with a byte, and with a number of two or four bytes, in front.
front-byte : (x : ℕ) (l : List ℕ) → x < 256 → Bytes l → Bytes (x ∷ l)
front-byte x l h b zero = h
front-byte x l h b (suc i) = b i

two : (x : ℕ) (l : List ℕ) → x < 65536 → Bytes l → Bytes (bytes16 x ++ l)
two x l h b = front-byte (x / 256) (x % 256 ∷ l) (omega arith) (front-byte (x % 256) l (omega arith) b)

four : (x : ℕ) (l : List ℕ) → x < 4294967296 → Bytes l → Bytes (bytes32 x ++ l)
four x l h b =
    front-byte (x / 16777216) (x / 65536 % 256 ∷ x / 256 % 256 ∷ x % 256 ∷ l) (omega arith)
    (front-byte (x / 65536 % 256) (x / 256 % 256 ∷ x % 256 ∷ l) (omega arith)
    (front-byte (x / 256 % 256) (x % 256 ∷ l) (omega arith) (front-byte (x % 256) l (omega arith) b)))

record-head : record_form.head ≡ 10
unfolding record_form
record-head = refl

module _ (r : Publication) where
  size : length (record_of r) ≡ 10 + length r.content
  unfolding record_of
  size = omega arith

  series-back : be16_of (record_of r) 0 ≡ r.series
  unfolding record_of be16_of
  series-back = omega arith

  tid-back : be32_of (record_of r) 2 ≡ r.tid
  unfolding record_of be32_of
  tid-back = omega arith

  content-back : drop 10 (record_of r) ≡ r.content
  unfolding record_of
  content-back = refl

  follows : (l : List ℕ) → record_form.follow (record_of r ++ l) ≡ length r.content
  unfolding record_form record_of be32_of
  follows l = omega arith

  stands : (l : List ℕ) → front record_form (record_of r ++ l) ≡ length (record_of r)
  unfolding front
  stands l =
      rw (
        follows l,
        record-head,
        length-append,
        size,
        le-leb (10 + length r.content) (10 + length r.content + length l) (omega arith),
      )

  bytes : r.series < 65536 → r.tid < 4294967296 → length r.content < 4294967296 → Bytes r.content
      → Bytes (record_of r)
  unfolding record_of
  bytes a b c d =
      let n = bytes32 (length r.content) ++ r.content in
      two r.series (bytes32 r.tid ++ n) a (four r.tid n b (four (length r.content) r.content c d))

  entry : Entry record_form (record_of r)
  entry = record { some = rw size (omega arith); stands = stands }

  call : (e : Sender) (log : List ℕ)
      → publish_record e (record_of r) log ≡ publish_of e r.series r.tid r.content log
  unfolding publish_record
  call e log = rw (series-back, tid-back, content-back)

-- ─── And what stands in bytes is their record ───

only : (x : List ℕ) → Bytes x → length x ≡ 10 + be32_of x 6
    → x ≡ record_of (record { series = be16_of x 0; tid = be32_of x 2; content = drop 10 x })
unfolding record_of
only x b size =
    let n : length (drop 10 x) ≡ be32_of x 6 = rw length-drop (omega (arith, size)) in
    sym (
    ap (λ (k : ℕ). bytes16 (be16_of x 0) ++ (bytes32 (be32_of x 2) ++ (bytes32 k ++ drop 10 x))) n
    ∙ ap (λ (t : List ℕ). bytes16 (be16_of x 0) ++ (bytes32 (be32_of x 2) ++ (t ++ drop 10 x)))
    (sym (four_bytes x b 6 (omega (arith, size))))
    ∙ ap (λ (t : List ℕ). bytes16 (be16_of x 0) ++ (t ++ (take 4 (drop 6 x) ++ drop 10 x)))
    (sym (four_bytes x b 2 (omega (arith, size))))
    ∙ ap (λ (t : List ℕ). t ++ (take 4 (drop 2 x) ++ (take 4 (drop 6 x) ++ drop 10 x)))
    (sym (two_bytes x b 0 (omega (arith, size))))
    ∙ ap (λ (t : List ℕ). take 2 x ++ (take 4 (drop 2 x) ++ (take 4 (drop 6 x) ++ t))) (sym (drop-drop 4 6 x))
    ∙ ap (λ (t : List ℕ). take 2 x ++ (take 4 (drop 2 x) ++ t)) (take-append-drop 4 (drop 6 x))
    ∙ ap (λ (t : List ℕ). take 2 x ++ (take 4 (drop 2 x) ++ t)) (sym (drop-drop 4 2 x))
    ∙ ap (λ (t : List ℕ). take 2 x ++ t) (take-append-drop 4 (drop 2 x))
    ∙ take-append-drop 2 x
    )

-- ─── Cut off, one behind the other ───

one : (r : Publication) (behind : List ℕ)
    → run_of record_form (record_of r ++ behind) ≡ in_front (record_of r) (run_of record_form behind)
one r behind =
    ap (λ (l : List ℕ). run_of record_form (l ++ behind)) (sym (append-nil (record_of r)))
    ∙ run-behind record_form some-record (record_of r ∷ []) (entry r, tt) behind

entries : (rs : List Publication) → Entries record_form (map record_of rs)
entries [] = tt
entries (r ∷ rs) = (entry r, entries rs)

inputs : (rs : List Publication)
    → run_of record_form (joined (map record_of rs)) ≡ record { entries = map record_of rs; rest = [] }
inputs rs = run-of record_form some-record (map record_of rs) (entries rs)

-- ─── The walk over them ───

walks : (e : Sender) (log : List ℕ) (at : ℕ) (rs : List Publication)
    → walk_from publishing e log at [] (map record_of rs) ≡ publish_each e log at rs
walks e log at [] = refl
walks e log at (r ∷ rs) =
    ap (λ (w : Wrote Sender Published).
    stop_or (published_stops at w.answer) (λ b. took w.end b w.bytes (at + length (record_of r)))
    (walk_from publishing w.end w.bytes (at + length (record_of r)) [] (map record_of rs)))
    (call r e log)
    ∙ ap (λ (n : ℕ).
    let w = publish_of e r.series r.tid r.content log in
    stop_or (published_stops at w.answer) (λ b. took w.end b w.bytes (at + n))
    (walk_from publishing w.end w.bytes (at + n) [] (map record_of rs)))
    (size r)
    ∙ ap (λ (t : Took Sender PublishedSeveral).
    let w = publish_of e r.series r.tid r.content log in
    stop_or (published_stops at w.answer) (λ b. took w.end b w.bytes (at + (10 + length r.content))) t)
    (walks (publish_of e r.series r.tid r.content log).end
    (publish_of e r.series r.tid r.content log).bytes (at + (10 + length r.content)) rs)

publishes : (e : Sender) (rs : List Publication) (log : List ℕ)
    → publish_several_of e (joined (map record_of rs)) log ≡ publish_each e log 0 rs
unfolding several_of
publishes e rs log = ap (λ (run : Run). walk_over publishing e log 0 run) (inputs rs) ∙ walks e log 0 rs

pub record-layout : RecordLayout
record-layout =
    record {
      size = size;
      bytes = bytes;
      only = only;
      one = one;
      call = λ e r log. call r e log;
      inputs = inputs;
      publishes = publishes;
    }
