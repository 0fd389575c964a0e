-- Fields written and read back, and written again from what was read. Assumes nothing.
use Prim.Native.Nat.{ℕ, zero, suc, ◌+◌, ◌<◌, ◌≤◌}
use mathlib.Core.Path.{◌≡◌, refl, sym, ap, subst, ◌∙◌}
use mathlib.Core.List.{List, [], ◌∷◌, ◌++◌, map, append_assoc, append-nil}
use mathlib.Core.Bool.{Bool, true, false, cond, ◌&&◌}
use mathlib.Core.Logic.{◌↔◌}
use native.Mathlib.Omega.{arith}
use borrow.Author.Tests.{le-leb, lt-leb, leb-true, ltb-true, ltb-false}
use lib.ListN.{length, get_or, take, drop, length-append, length-drop, take-append-drop}
use lib.Seq.{drop-drop}
use lib.Dec.{ltb, leb}
use Rattle.ftd.specs.Bytes.{be16_of, be32_of, Bytes, joined, bytes16, bytes32}
use Rattle.ftd.specs.Runs.{Form, front, Run, run_of, ended}
use Rattle.ftd.specs.Fields.{field, fields_of, fid_of, bytes_of, field_with, Given, given_of, fields_with, content_with}
use Rattle.ftd.specs.Fields.{shaped}
use Rattle.ftd.specs.Write.{fine, refuse, field_verdict}
use Rattle.ftd.specs.Fields.Laws.{FieldLaws}
use Rattle.ftd.specs.declared.refusal.Refusal.TheVariants.{FieldRun}
use Rattle.ftd.proofs.runs.Laws.{run-joined, run-whole}
use Rattle.ftd.proofs.runs.Heads.{front-whole}
use Rattle.ftd.proofs.fields.Turns.{some-field}
use Rattle.ftd.proofs.write.Puts.{length-field}
use Rattle.ftd.proofs.bytes.Numbers.{back32, two_bytes, four_bytes}
use Rattle.ftd.proofs.runs.Joined.{Entry, Entries, run-of}
use Rattle.ftd.proofs.chain.Laws.{fields-entries}

-- ─── Read back ───

module _ (fid : ℕ) (bytes : List ℕ) where
  follows : (r : List ℕ) → field.head + field.follow (field_with fid bytes ++ r) ≡ 6 + length bytes
  unfolding field field_with be16_of
  follows r = omega arith

  -- A field that is written is an entry.
  pub field-entry : Entry field (field_with fid bytes)
  field-entry =
      record {
        some = rw length-field (omega arith);
        stands =
            λ r.
            front-whole field (field_with fid bytes ++ r)
            (rw (follows r, length-append (field_with fid bytes) r, length-field fid bytes) (omega arith))
            ∙ follows r
            ∙ sym (length-field fid bytes);
      }

  pub one_field : run_of field (field_with fid bytes) ≡ record { entries = field_with fid bytes ∷ []; rest = [] }
  one_field =
      ap (run_of field) (sym (append-nil (field_with fid bytes)))
      ∙ run-of field some-field (field_with fid bytes ∷ []) (field-entry, tt)

  pub fid-back : fid_of (field_with fid bytes) ≡ fid
  unfolding field_with
  fid-back = back32 fid (bytes16 (length bytes) ++ bytes)

  pub bytes_back : bytes_of (field_with fid bytes) ≡ bytes
  unfolding field_with
  bytes_back = refl

given-entries : (gs : List Given) → Entries field (fields_with gs)
given-entries [] = tt
given-entries (g ∷ gs) = (field-entry g.fid g.bytes, given-entries gs)

pub fields_back : (gs : List Given) → run_of field (content_with gs) ≡ record { entries = fields_with gs; rest = [] }
fields_back gs = run-of field some-field (fields_with gs) (given-entries gs)

given_back : (gs : List Given) → map given_of (fields_with gs) ≡ gs
given_back [] = refl
given_back (g ∷ gs) = rw (fid-back g.fid g.bytes, bytes_back g.fid g.bytes, given_back gs)

pub values-back : (gs : List Given) → map given_of (fields_of (content_with gs)) ≡ gs
values-back gs = ap (λ (r : Run). map given_of r.entries) (fields_back gs) ∙ given_back gs

-- Each is a byte.
pub field-bytes : (fid : ℕ) (bytes : List ℕ) → fid < 4294967296 → length bytes ≤ 65535 → Bytes bytes
    → Bytes (field_with fid bytes)
unfolding field_with
field-bytes fid bytes f n b zero = omega arith
field-bytes fid bytes f n b (suc zero) = omega arith
field-bytes fid bytes f n b (suc (suc zero)) = omega arith
field-bytes fid bytes f n b (suc (suc (suc zero))) = omega arith
field-bytes fid bytes f n b (suc (suc (suc (suc zero)))) = omega arith
field-bytes fid bytes f n b (suc (suc (suc (suc (suc zero))))) = omega arith
field-bytes fid bytes f n b (suc (suc (suc (suc (suc (suc i)))))) = b i

-- ─── Written again ───

pub left-bytes : (l r : List ℕ) → Bytes (l ++ r) → Bytes l
left-bytes [] r b i = omega arith
left-bytes (x ∷ l) r b zero = b zero
left-bytes (x ∷ l) r b (suc i) = left-bytes l r (λ k. b (suc k)) i

pub right-bytes : (l r : List ℕ) → Bytes (l ++ r) → Bytes r
right-bytes [] r b = b
right-bytes (x ∷ l) r b = right-bytes l r (λ k. b (suc k))

joined_bytes : (ls : List (List ℕ)) (r : List ℕ) → Bytes (joined ls ++ r) → (i : ℕ) → i < length ls
    → Bytes (get_or ls i [])
joined_bytes [] r b i h = absurd (omega arith)
joined_bytes (l ∷ ls) r b zero h = left-bytes l (joined ls ++ r) (subst Bytes (append_assoc l (joined ls) r) b)
joined_bytes (l ∷ ls) r b (suc i) h =
    joined_bytes ls r (right-bytes l (joined ls ++ r) (subst Bytes (append_assoc l (joined ls) r) b)) i (omega arith)

entry_at : (es : List (List ℕ)) (i : ℕ) → Entries field es → i < length es → Entry field (get_or es i [])
entry_at [] i a h = absurd (omega arith)
entry_at (e ∷ es) zero a h = a.0
entry_at (e ∷ es) (suc i) a h = entry_at es i a.1 (omega arith)

-- Where an entry stands, it takes its head and what the head says.
front-is : (F : Form) (l : List ℕ) → 0 < front F l → front F l ≡ F.head + F.follow l
unfolding front
front-is F l = go (leb (F.head + F.follow l) (length l))
  where
    go : (b : Bool) → 0 < cond b (F.head + F.follow l) 0 → cond b (F.head + F.follow l) 0 ≡ F.head + F.follow l
    go true h = refl
    go false h = absurd (omega arith)

module _ (f : List ℕ) (a : Entry field f) (b : Bytes f) where
  size : length f ≡ 6 + be16_of f 4
  unfolding field
  size =
      let e : front field f ≡ length f = ap (front field) (sym (append-nil f)) ∙ a.stands [] in
      sym e ∙ front-is field f (rw e a.some)

  pub field-again : field_with (fid_of f) (bytes_of f) ≡ f
  unfolding field_with
  field-again =
      let n : length (drop 6 f) ≡ be16_of f 4 = rw length-drop (omega (arith, size)) in
      ap (λ (k : ℕ). bytes32 (be32_of f 0) ++ (bytes16 k ++ drop 6 f)) n
      ∙ ap (λ (t : List ℕ). bytes32 (be32_of f 0) ++ (t ++ drop 6 f)) (sym (two_bytes f b 4 (omega (arith, size))))
      ∙ ap (λ (t : List ℕ). t ++ (take 2 (drop 4 f) ++ drop 6 f)) (sym (four_bytes f b 0 (omega (arith, size))))
      ∙ ap (λ (t : List ℕ). take 4 f ++ (take 2 (drop 4 f) ++ t)) (sym (drop-drop 2 4 f))
      ∙ ap (λ (t : List ℕ). take 4 f ++ t) (take-append-drop 2 (drop 4 f))
      ∙ take-append-drop 4 f

pub again : (c : List ℕ) (i : ℕ) → Bytes c → i < length (fields_of c)
    → field_with (fid_of (get_or (fields_of c) i [])) (bytes_of (get_or (fields_of c) i [])) ≡ get_or (fields_of c) i []
again c i b h =
    field-again (get_or (fields_of c) i []) (entry_at (fields_of c) i (fields-entries c) h)
    (joined_bytes (fields_of c) (run_of field c).rest (subst Bytes (sym (run-joined field c)) b) i h)

all-again : (fs : List (List ℕ)) → Entries field fs → Bytes (joined fs) → content_with (map given_of fs) ≡ joined fs
all-again [] a b = refl
all-again (f ∷ fs) a b =
    ap (λ (t : List ℕ). t ++ content_with (map given_of fs)) (field-again f a.0 (left-bytes f (joined fs) b))
    ∙ ap (λ (t : List ℕ). f ++ t) (all-again fs a.1 (right-bytes f (joined fs) b))

pub list-again : (c : List ℕ) → Bytes c → ended (run_of field c) ≡ true → content_with (map given_of (fields_of c)) ≡ c
list-again c b e =
    let w = run-whole field c e in
    all-again (fields_of c) (fields-entries c) (subst Bytes (sym w) b) ∙ w

-- ─── What 7 says of a field that is written ───

module _ (fid : ℕ) (bytes : List ℕ) where
  shape_is : (limit : ℕ) → shaped (field_with fid bytes)
      limit ≡ (leb (6 + length bytes) limit && (leb (6 + length bytes) 4080 && true))
  unfolding shaped
  shape_is limit = rw (one_field fid bytes, length-field fid bytes)

  pub shape : (limit : ℕ) → (shaped (field_with fid bytes) limit ≡ true)
      ↔ ((length bytes ≤ 4074) × (length bytes + 6 ≤ limit))
  shape limit = (
    λ e. go (leb (6 + length bytes) limit) refl (leb (6 + length bytes) 4080) refl (sym (shape_is limit) ∙ e),
    λ h.
        let most = h.0 in
        let room = h.1 in
        shape_is limit
        ∙ rw (le-leb (6 + length bytes) limit (omega arith), le-leb (6 + length bytes) 4080 (omega arith)),
  )
    where
      clash : {A : Type 0} → false ≡ true → A
      clash x = let y : ◌≡◌ {A = ℕ} 0 1 = cc in absurd (omega arith)

      go : (a : Bool) → leb (6 + length bytes) limit ≡ a → (b : Bool) → leb (6 + length bytes) 4080 ≡ b
          → (a && (b && true)) ≡ true
          → (length bytes ≤ 4074) × (length bytes + 6 ≤ limit)
      go true p true q e =
          (omega (arith, leb-true (6 + length bytes) 4080 q), omega (arith, leb-true (6 + length bytes) limit p))
      go true p false q e = clash e
      go false p b q e = clash e

  pub verdict : field_verdict bytes ≡ cond (shaped (field_with fid bytes) 4080) fine (refuse FieldRun)
  unfolding field_verdict
  verdict = go (ltb 4074 (length bytes)) refl
    where
      go : (b : Bool) → ltb 4074 (length bytes) ≡ b
          → cond b (refuse FieldRun) fine ≡ cond (shaped (field_with fid bytes) 4080) fine (refuse FieldRun)
      go true e = rw (shape_is 4080, lt-leb (6 + length bytes) 4080 (omega (arith, ltb-true 4074 (length bytes) e)))
      go false e = rw (shape_is 4080, le-leb (6 + length bytes) 4080 (omega (arith, ltb-false 4074 (length bytes) e)))

-- ─── All of it ───

pub field_laws : FieldLaws
field_laws =
    record {
      back = λ fid bytes. (one_field fid bytes, fid-back fid bytes, bytes_back fid bytes);
      in_bytes = field-bytes;
      list_back = λ gs. (fields_back gs, values-back gs);
      again = again;
      list-again = list-again;
      shape = shape;
      verdict = verdict;
    }
