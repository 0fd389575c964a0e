-- The events of a message of bytes have quantities of four bytes. Assumes nothing.
use Prim.Native.Nat.{ℕ, ◌+◌, ◌≤◌}
use mathlib.Core.Path.{sym, subst}
use mathlib.Core.List.{List, [], ◌∷◌, ◌++◌, map, append_assoc}
use mathlib.Core.Bool.{Bool, true, false, cond}
use native.Mathlib.Omega.{arith}
use lib.ListN.{length, get_or, take, drop, take-append-drop}
use lib.IntN.{ℤ}
use lib.Dec.{eqb, leb}
use Rattle.ftd.specs.Bytes.{Bytes, be32_of, part, joined}
use Rattle.ftd.specs.Runs.{run_of}
use Rattle.ftd.specs.Fields.{field, fields_of, bytes_of}
use Rattle.ftd.specs.Places.{cut_item, item_of, item_bytes}
use Rattle.ftd.proofs.Lists.{be32-width}
use Rattle.ftd.proofs.runs.Laws.{run-joined}
use Rattle.ftd.proofs.fields.Laws.{left-bytes, right-bytes}
use Rattle.book.specs.declared.levels.Level.{Level}
use Rattle.book.specs.declared.event.Event.{Event}
use Rattle.book.specs.declared.event.Event.TheVariants.{Nothing, Quotation, Match}
use Rattle.book.specs.Types.{Price}
use Rattle.book.specs.Event.{quotation_tid, match_tid, quotation_fid, match_fid, quoted, matched, same_bytes, price_of}
use Rattle.book.specs.Event.{priced, faced, sided, quotation_in, match_in, is_field, event_of}
use Rattle.book.specs.Calls.{events_of}
use Rattle.book.specs.Verdict.{Wide}
use Rattle.std.specs.Prelude.{Some, None}
use Rattle.ftd.specs.Types.{MaybeItem}

-- Each event of a list.
abbrev pub AllWide : List Event → Type 0
AllWide [] = Unit
AllWide (e ∷ es) = Wide e × AllWide es

-- ─── Parts of bytes ───

take-bytes : (n : ℕ) (l : List ℕ) → Bytes l → Bytes (take n l)
take-bytes n l b = left-bytes (take n l) (drop n l) (subst Bytes (sym (take-append-drop n l)) b)

drop-bytes : (n : ℕ) (l : List ℕ) → Bytes l → Bytes (drop n l)
drop-bytes n l b = right-bytes (take n l) (drop n l) (subst Bytes (sym (take-append-drop n l)) b)

no_bytes : Bytes []
no_bytes i = omega arith

item-bytes : (l : List ℕ) (fid i : ℕ) → Bytes l → Bytes (item_bytes l fid i)
unfolding item_bytes
item-bytes l fid i b = go (item_of fid i)
  where
    cut : (t : Bool) (start width : ℕ) → Bytes (cond t (part l start width) [])
    cut true start width = take-bytes width (drop start l) (drop-bytes start l b)
    cut false start width = no_bytes

    go : (p : MaybeItem) → Bytes (cut_item l p)
    go None = no_bytes
    go (Some found) = cut (leb (found.start + found.width) (length l)) found.start found.width

-- ─── Events ───

wide-if : (t : Bool) (x y : Event) → Wide x → Wide y → Wide (cond t x y)
wide-if true x y a b = a
wide-if false x y a b = b

faced-wide : (absolute : Bool) (direction : ℕ) (o : Level) → o.quantity ≤ 4294967295 → Wide (faced absolute direction o)
unfolding faced
faced-wide absolute direction o h =
    wide-if (eqb direction 0) (Quotation absolute true o) (cond (eqb direction 1) (Quotation absolute false o) Nothing) h
    (wide-if (eqb direction 1) (Quotation absolute false o) Nothing h tt)

sided-wide : (kind direction : ℕ) (o : Level) → o.quantity ≤ 4294967295 → Wide (sided kind direction o)
unfolding sided
sided-wide kind direction o h =
    wide-if (eqb kind 0) (faced false direction o) (cond (eqb kind 1) (faced true direction o) Nothing)
    (faced-wide false direction o h)
    (wide-if (eqb kind 1) (faced true direction o) Nothing (faced-wide true direction o h) tt)

priced-wide : (p : Price) (v : ℕ) (make : Level → Event)
    → ((q : ℤ) → Wide (make (record { price = q; quantity = v }))) → Wide (priced p v make)
priced-wide None v make f = tt
priced-wide (Some q) v make f = f q

quotation-wide : (code bytes : List ℕ) → Bytes bytes → Wide (quotation_in code bytes)
unfolding quotation_in
quotation-wide code bytes b =
    wide-if (same_bytes (quoted bytes 0) code)
    (priced (price_of (quoted bytes 4)) (be32_of (quoted bytes 5) 0)
    (sided (get_or (quoted bytes 2) 0 0) (get_or (quoted bytes 3) 0 0)))
    Nothing
    (priced-wide (price_of (quoted bytes 4)) (be32_of (quoted bytes 5) 0)
    (sided (get_or (quoted bytes 2) 0 0) (get_or (quoted bytes 3) 0 0))
    (λ q. sided-wide (get_or (quoted bytes 2) 0 0) (get_or (quoted bytes 3) 0 0)
    (record { price = q; quantity = be32_of (quoted bytes 5) 0 })
    (omega (arith, be32-width (quoted bytes 5) (item-bytes bytes quotation_fid 5 b) 0))))
    tt

match-wide : (code bytes : List ℕ) → Wide (match_in code bytes)
unfolding match_in
match-wide code bytes =
    wide-if (same_bytes (matched bytes 0) code)
    (priced (price_of (matched bytes 3)) (be32_of (matched bytes 4) 0) (λ o. Match o)) Nothing
    (priced-wide (price_of (matched bytes 3)) (be32_of (matched bytes 4) 0) (λ o. Match o) (λ q. tt)) tt

event-wide : (code : List ℕ) (tid : ℕ) (f : List ℕ) → Bytes f → Wide (event_of code tid f)
unfolding event_of
event-wide code tid f b =
    wide-if (eqb tid quotation_tid) (cond (is_field quotation_fid f) (quotation_in code (bytes_of f)) Nothing)
    (cond (eqb tid match_tid) (cond (is_field match_fid f) (match_in code (bytes_of f)) Nothing) Nothing)
    (wide-if (is_field quotation_fid f) (quotation_in code (bytes_of f)) Nothing
    (quotation-wide code (bytes_of f) (drop-bytes 6 f b)) tt)
    (wide-if (eqb tid match_tid) (cond (is_field match_fid f) (match_in code (bytes_of f)) Nothing) Nothing
    (wide-if (is_field match_fid f) (match_in code (bytes_of f)) Nothing (match-wide code (bytes_of f)) tt) tt)

-- ─── A message ───

each-wide : (code : List ℕ) (tid : ℕ) (fs : List (List ℕ)) (rest : List ℕ) → Bytes (joined fs ++ rest)
    → AllWide (map (event_of code tid) fs)
each-wide code tid [] rest b = tt
each-wide code tid (f ∷ fs) rest b =
    let w : Bytes (f ++ (joined fs ++ rest)) = subst Bytes (append_assoc f (joined fs) rest) b in (
      event-wide code tid f (left-bytes f (joined fs ++ rest) w),
      each-wide code tid fs rest (right-bytes f (joined fs ++ rest) w),
    )

pub events-wide : (code : List ℕ) (tid : ℕ) (content : List ℕ) → Bytes content → AllWide (events_of code tid content)
unfolding events_of
events-wide code tid content b =
    each-wide code tid (fields_of content) (run_of field content).rest (subst Bytes (sym (run-joined field content)) b)
