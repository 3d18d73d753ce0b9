-- Procedures with their calls, as a watcher knows them.
use Rattle.std.proofs.lemmas.Bool.Decides.{nat_tests}
use Rattle.std.specs.Map.{lookup}
use Rattle.std.proofs.Common.{arith, add-one, ◌≡◌, ◌∙◌, ◌+◌, ◌≤◌, Option, Some, None, ℕ, suc, Bool, true, false, cond, List, [], ◌∷◌, ◌++◌, map, codes, decimal, nat_eq, bytes_eq, refl, sym, ap}
use Rattle.std.specs.Global.{Vec}
use Rattle.indexmap.specs.IndexMap.{insert_entry}
use Rattle.setl_watch.specs.Covers.{all_counted}
use Rattle.setl_watch.specs.Notices.{Notice, Called}
use Rattle.setl_watch.specs.Watches.{after, reported, counted_by}
use Rattle.setl_watch.specs.Profiles.{name_in, with_first, place_of, counted_at, profile_report, Procedures, first_calls, counts_from, with_call, lines_of, calls_in, profile}

report_from : (at : ℕ) (ps : Procedures) → profile_report (first_calls ps) (counts_from at ps) ≡ lines_of ps
report_from at [] = refl
report_from at (p ∷ ps) = ap (λ r. codes "proc " ++ p.0 ++ codes ": " ++ decimal p.1.1 ++ 10 ∷ r) (report_from (suc at) ps)

count_from : (at : ℕ) (ps : Procedures) → all_counted (counts_from at ps) ≡ calls_in ps
count_from at [] = refl
count_from at (p ∷ ps) = ap (λ n. p.1.1 + n) (count_from (suc at) ps)

pub report_is : (ps : Procedures) → reported (profile ps) ≡ lines_of ps
report_is ps = report_from 0 ps

pub count_is : (ps : Procedures) → counted_by (profile ps) ≡ calls_in ps
count_is ps = count_from 0 ps

-- ---- one call more

first_calls_with : (line : ℕ) (name : List ℕ) (ps : Procedures) → first_calls (with_call line name ps) ≡ with_first (Called line name) (first_calls ps)
first_calls_with line name [] = refl
first_calls_with line name (p ∷ ps) = split (bytes_eq name p.0) (first_calls_with line name ps)
  where
    split : (b : Bool) → first_calls (with_call line name ps) ≡ with_first (Called line name) (first_calls ps) →
        first_calls (cond b ((p.0, (p.1.0, suc p.1.1)) ∷ ps) (p ∷ with_call line name ps)) ≡ cond b (first_calls (p ∷ ps)) (Called p.1.0 p.0 ∷ with_first (Called line name) (first_calls ps))
    split true later = refl
    split false later = ap (λ r. Called p.1.0 p.0 ∷ r) later

at_or_behind : (name : List ℕ) (at : ℕ) (fs : List Notice) → at ≤ place_of name at fs
at_or_behind name at [] = omega arith
at_or_behind name at (f ∷ fs) = split (bytes_eq name (name_in f)) (at_or_behind name (suc at) fs)
  where
    split : (b : Bool) → suc at ≤ place_of name (suc at) fs → at ≤ cond b at (place_of name (suc at) fs)
    split true later = omega arith
    split false later = omega (arith, later)

counts_with : (line : ℕ) (name : List ℕ) (at : ℕ) (ps : Procedures) → counts_from at (with_call line name ps) ≡ counted_at (place_of name at (first_calls ps)) (counts_from at ps)
counts_with line name at [] = refl
counts_with line name at (p ∷ ps) = split (bytes_eq name p.0) (counts_with line name (suc at) ps) (at_or_behind name (suc at) (first_calls ps))
  where
    split : (b : Bool) → counts_from (suc at) (with_call line name ps) ≡ counted_at (place_of name (suc at) (first_calls ps)) (counts_from (suc at) ps) → suc at ≤ place_of name (suc at) (first_calls ps) →
        counts_from at (cond b ((p.0, (p.1.0, suc p.1.1)) ∷ ps) (p ∷ with_call line name ps)) ≡ counted_at (cond b at (place_of name (suc at) (first_calls ps))) (counts_from at (p ∷ ps))
    split true later h =
        let same : nat_eq at at ≡ true = grind (arith, nat_tests) in
        rw same refl
    split false later h =
        let other : nat_eq at (place_of name (suc at) (first_calls ps)) ≡ false = grind (arith, nat_tests) in
        rw other (ap (λ cs. (at, p.1.1) ∷ cs) later)

pub called_once_more : (line : ℕ) (name : List ℕ) (ps : Procedures) → profile (with_call line name ps) ≡ after (profile ps) (Called line name)
called_once_more line name ps = rw (first_calls_with line name ps, counts_with line name 0 ps) refl

-- ---- entries

abbrev pub same_key : Vec ℕ → Vec ℕ → Bool
same_key x y = bytes_eq x.items y.items

abbrev pub plain : List (Vec ℕ × (ℕ × ℕ)) → Procedures
plain es = map (λ e. (e.0.items, e.1)) es

abbrev among : List (Vec ℕ × (ℕ × ℕ)) → List ℕ → Option (ℕ × ℕ)
among es name = lookup (λ (key : Vec ℕ). bytes_eq name key.items) es

-- a procedure that wasn't called yet
pub first_entered : (es : List (Vec ℕ × (ℕ × ℕ))) (key : Vec ℕ) (line : ℕ) → among es key.items ≡ None → plain (insert_entry same_key es key (line, 1)) ≡ with_call line key.items (plain es)
first_entered [] key line h = refl
first_entered (e ∷ es) key line h = split (bytes_eq key.items e.0.items) h (first_entered es key line)
  where
    split : (b : Bool) → cond b (Some e.1) (among es key.items) ≡ None → (among es key.items ≡ None → plain (insert_entry same_key es key (line, 1)) ≡ with_call line key.items (plain es)) →
        plain (cond b ((e.0, (line, 1)) ∷ es) (e ∷ insert_entry same_key es key (line, 1))) ≡ cond b ((e.0.items, (e.1.0, suc e.1.1)) ∷ plain es) ((e.0.items, e.1) ∷ with_call line key.items (plain es))
    split true h later = cc
    split false h later = ap (λ r. (e.0.items, e.1) ∷ r) (later h)

-- one that was
pub next_entered : (es : List (Vec ℕ × (ℕ × ℕ))) (key : Vec ℕ) (line first count : ℕ) → among es key.items ≡ Some (first, count) → plain (insert_entry same_key es key (first, suc count)) ≡ with_call line key.items (plain es)
next_entered [] key line first count h = cc
next_entered (e ∷ es) key line first count h = split (bytes_eq key.items e.0.items) h (next_entered es key line first count)
  where
    split : (b : Bool) → cond b (Some e.1) (among es key.items) ≡ Some (first, count) → (among es key.items ≡ Some (first, count) → plain (insert_entry same_key es key (first, suc count)) ≡ with_call line key.items (plain es)) →
        plain (cond b ((e.0, (first, suc count)) ∷ es) (e ∷ insert_entry same_key es key (first, suc count))) ≡ cond b ((e.0.items, (e.1.0, suc e.1.1)) ∷ plain es) ((e.0.items, e.1) ∷ with_call line key.items (plain es))
    split true h later = let same : e.1 ≡ (first, count) = cc in ap (λ (v : ℕ × ℕ). (e.0.items, (v.0, suc v.1)) ∷ plain es) (sym same)
    split false h later = ap (λ r. (e.0.items, e.1) ∷ r) (later h)

pub first_counted : (old new : List (Vec ℕ × (ℕ × ℕ))) (key : Vec ℕ) (name : List ℕ) (line : ℕ) (v : ℕ × ℕ) → new ≡ insert_entry same_key old key v → key.items ≡ name → v ≡ (line, 1) → None ≡ among old name → plain new ≡ with_call line name (plain old)
first_counted old new key name line v e ek ev none =
    ap plain e
    ∙ ap (λ u. plain (insert_entry same_key old key u)) ev
    ∙ first_entered old key line (ap (among old) ek ∙ sym none)
    ∙ ap (λ n. with_call line n (plain old)) ek

pub next_counted : (old new : List (Vec ℕ × (ℕ × ℕ))) (key : Vec ℕ) (name : List ℕ) (line : ℕ) (was v : ℕ × ℕ) (count : ℕ) → new ≡ insert_entry same_key old key v → key.items ≡ name → v ≡ (was.0, count) → count ≡ was.1 + 1 → Some was ≡ among old name → plain new ≡ with_call line name (plain old)
next_counted old new key name line was v count e ek ev ec some =
    let one_more : v ≡ (was.0, suc was.1) = ev ∙ ap (λ n. (was.0, n)) (ec ∙ add-one was.1) in
    ap plain e
    ∙ ap (λ u. plain (insert_entry same_key old key u)) one_more
    ∙ next_entered old key line was.0 was.1 (ap (among old) ek ∙ sym some)
    ∙ ap (λ n. with_call line n (plain old)) ek
