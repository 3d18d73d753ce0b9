-- Where reading a program stops, the tokens go wrong.
use Rattle.std.proofs.Common.{◌≡◌, ℕ, zero, suc, true, ◌+◌, ◌≤◌, ◌<◌, [], ◌∷◌, ◌++◌, length, Ok, Err, refl, sym, ap, subst, ◌∙◌, append_assoc, arith, inl, inr, ◌⊎◌, length-append}
use Rattle.std.proofs.lemmas.List.{append-nil}
use Rattle.setl_tree.specs.declared.tree.Tree.{Tree}
use Rattle.setl_tree.specs.Tokens.{Token, Tokens}
use Rattle.setl_tree.specs.Programs as grammar
use Rattle.setl_tree.specs.Programs.{Derives}
use Rattle.setl_parse_reading.specs.declared.fault.Fault.{Fault}
use Rattle.setl_parse_reading.specs.declared.fault.Fault.TheVariants.{Memory, Syntax, Nesting}
use Rattle.setl_parse_reading.specs.code.Reading.{Outcome}
use Rattle.setl_parse_reading.specs.Fronts.{Begins, GoesWrong, Opens, FaultOf, opens_nesting}
use Rattle.setl_parse_reading.specs.Claims.{IsTooDeep, FaultIsExact, LeftoverIsExact, FaultIsUnique, ProgramsHaveNoFault}
use Rattle.setl_parse_reading.specs.code.ReadPrograms as reading
use Rattle.setl_parse_reading.proofs.Laws.{ok_parts}
use Rattle.setl_parse_reading.proofs.Reach.{left, Extends}
use Rattle.setl_parse_reading.proofs.Openers.{Opener, Shows}
use Rattle.setl_parse_reading.proofs.Programs.{law_program, exact_program}
use Rattle.setl_parse_reading.proofs.Rooms.{fewer_nestings, further}
use Rattle.setl_parse_reading.proofs.Top.{reading_is_sound, reading_is_complete, nestings_may_be_more}

no_end : (t : Token) (rest : Tokens) → t ∷ rest ≡ [] → ⊥
no_end t rest h = cc

-- reading that stopped within the front does not come to the end of other tokens behind it
stops_within : {A : Type 0} (o one two : Outcome A) (back more : Tokens) (a : A) → Extends back o one → Extends more o two → length back < left one → two ≡ Ok (a, []) → ⊥
stops_within (Ok (x, [])) one two back more a h g long e = omega (arith, h, long)
stops_within (Ok (x, t ∷ rest)) one two back more a h g long e =
    let p = ok_parts x a (t ∷ (rest ++ more)) [] (sym g ∙ e) in
    absurd (no_end t (rest ++ more) p.1)
stops_within (Err (Syntax zero)) one two back more a h g long e = omega (arith, h, long)
stops_within (Err (Syntax (suc n))) one two back more a h g long e = absurd (cc (g, e))
stops_within (Err (Nesting zero)) one two back more a h g long e = omega (arith, h, long)
stops_within (Err (Nesting (suc n))) one two back more a h g long e = absurd (cc (g, e))
stops_within (Err Memory) one two back more a h g long e = omega (arith, h, long)

-- with more nestings the outcome is the same
same_with_more : (room more : ℕ) (toks : Tokens) (o : Outcome Tree) → room ≤ more → reading.program room toks ≡ o → (IsTooDeep o → ⊥) → reading.program more toks ≡ o
same_with_more room more toks o le h shallow = elim (fewer_nestings room more toks le) [
  | inl same ↦ sym same ∙ h
  | inr deep ↦ absurd (shallow (deep.0, sym h ∙ deep.1))
]

-- where reading stops at a token, no program begins with the tokens up to it
none_begins : (room : ℕ) (toks front : Tokens) (t : Token) (others : Tokens) (o : Outcome Tree) → reading.program room toks ≡ o → (IsTooDeep o → ⊥) → toks ≡ front ++ t ∷ others → left o ≡ suc (length others) → Begins (front ++ t ∷ []) → ⊥
none_begins room toks front t others o h shallow parts place begins =
    let up : Tokens = front ++ t ∷ [] in
    let more = begins.0 in
    let tree = begins.1 in
    let enough = begins.2.0 in
    let big : ℕ = room + enough + length up + 2 in
    let whole : toks ≡ up ++ others = parts ∙ sym (append_assoc front (t ∷ []) others) in
    let one : reading.program big (up ++ others) ≡ o = ap (reading.program big) (sym whole) ∙ same_with_more room big toks o (omega arith) h shallow in
    let derived : grammar.program big (up ++ more) tree = nestings_may_be_more enough big (up ++ more) tree (omega arith) begins.2.1 in
    let two : reading.program big (up ++ more) ≡ Ok (tree, []) = reading_is_complete big (up ++ more) tree derived in
    let local = (exact_program big).reach.local in
    let long = ap left one in
    stops_within (reading.program big up) (reading.program big (up ++ others)) (reading.program big (up ++ more)) others more tree (local up others) (local up more) (omega (arith, long, place)) two

abbrev failed : Fault → Outcome Tree
failed e = Err e

abbrev read_to : Tree → Tokens → Outcome Tree
read_to tree rest = Ok (tree, rest)

no_fault_deep : (count : ℕ) → IsTooDeep {A = Tree} (Err (Syntax count)) → ⊥
no_fault_deep count deep = let h = deep.1 in absurd (cc h)

no_value_deep : (tree : Tree) (rest : Tokens) → IsTooDeep {A = Tree} (Ok (tree, rest)) → ⊥
no_value_deep tree rest deep = let h = deep.1 in absurd (cc h)

-- tokens that are read otherwise than to their end derive no tree
none_derived : (room : ℕ) (toks : Tokens) (o : Outcome Tree) → reading.program room toks ≡ o → (IsTooDeep o → ⊥) → ((tree : Tree) → o ≡ Ok (tree, []) → ⊥) → (tree : Tree) → Derives toks tree → ⊥
none_derived room toks o h shallow otherwise tree derives =
    let big : ℕ = room + derives.0 in
    let read = same_with_more room big toks o (omega arith) h shallow in
    let whole = reading_is_complete big toks tree (nestings_may_be_more derives.0 big toks tree (omega arith) derives.1) in
    otherwise tree (sym read ∙ whole)

fault_no_tree : (count : ℕ) (tree : Tree) → failed (Syntax count) ≡ Ok (tree, []) → ⊥
fault_no_tree count tree h = cc h

left_no_tree : (one tree : Tree) (t : Token) (rest : Tokens) → read_to one (t ∷ rest) ≡ Ok (tree, []) → ⊥
left_no_tree one tree t rest h = let p = ok_parts one tree (t ∷ rest) [] h in no_end t rest p.1

-- a fault of syntax is where the tokens go wrong
syntax_is_wrong : (room : ℕ) (toks : Tokens) (count : ℕ) → reading.program room toks ≡ Err (Syntax count) → GoesWrong toks count
syntax_is_wrong room toks count h =
    let big : ℕ = room + length toks + 2 in
    let read = same_with_more room big toks (Err (Syntax count)) (omega arith) h (no_fault_deep count) in
    let f = (exact_program big).stop toks count (inl (omega arith)) read in
    record {
      front = f.used;
      rest = f.rest;
      parts = f.parts;
      place = f.left;
      begins = (f.more, f.value, (big, f.spelled));
      wrong = λ t others is begins. none_begins room toks f.used t others (Err (Syntax count)) h (no_fault_deep count) (f.parts ∙ ap (λ (z : Tokens). f.used ++ z) is) (sym f.left ∙ ap length is) begins;
      none = none_derived room toks (Err (Syntax count)) h (no_fault_deep count) (fault_no_tree count);
    }

leftover_is_wrong : (room : ℕ) (toks : Tokens) (tree : Tree) (t : Token) (rest : Tokens) → reading.program room toks ≡ Ok (tree, t ∷ rest) → GoesWrong toks (length (t ∷ rest))
leftover_is_wrong room toks tree t rest h =
    let took = (law_program room).sound.took toks tree (t ∷ rest) h in
    record {
      front = took.used;
      rest = t ∷ rest;
      parts = took.parts;
      place = refl;
      begins = ([], tree, (room, subst (λ (z : Tokens). grammar.program room z tree) (sym (append-nil took.used)) took.spelled));
      wrong = λ u others is begins. none_begins room toks took.used u others (Ok (tree, t ∷ rest)) h (no_value_deep tree (t ∷ rest)) (took.parts ∙ ap (λ (z : Tokens). took.used ++ z) is) (ap length is) begins;
      none = none_derived room toks (Ok (tree, t ∷ rest)) h (no_value_deep tree (t ∷ rest)) (λ other. left_no_tree tree other t rest);
    }

-- ---- one place

same_parts : (t u : Token) (one two : Tokens) → t ∷ one ≡ u ∷ two → (t ≡ u) × (one ≡ two)
same_parts t u one two h = (cc, cc)

-- the longer of two fronts goes on from the shorter
longer : (one rest two others : Tokens) → one ++ rest ≡ two ++ others → length two < length one → (t : Token) × (more : Tokens) × (one ≡ two ++ t ∷ more) × (others ≡ t ∷ (more ++ rest))
longer [] rest two others h long = absurd (omega (arith, long))
longer (t ∷ one) rest [] others h long = (t, one, refl, sym h)
longer (t ∷ one) rest (u ∷ two) others h long =
    let same = same_parts t u (one ++ rest) (two ++ others) h in
    let n = longer one rest two others same.1 (omega (arith, long)) in
    (n.0, n.1, ap (λ (z : Tokens). t ∷ z) n.2 ∙ ap (λ (z : Token). z ∷ (two ++ n.0 ∷ n.1)) same.0, n.3)

shorter_begins : (front : Tokens) (t : Token) (more : Tokens) → Begins (front ++ t ∷ more) → Begins (front ++ t ∷ [])
shorter_begins front t more begins =
    let same : (front ++ t ∷ more) ++ begins.0 ≡ (front ++ t ∷ []) ++ (more ++ begins.0) = append_assoc front (t ∷ more) begins.0 ∙ sym (append_assoc front (t ∷ []) (more ++ begins.0)) in
    (more ++ begins.0, begins.1, (begins.2.0, subst (λ (z : Tokens). grammar.program begins.2.0 z begins.1) same begins.2.1))

not_later : (toks : Tokens) (one two : ℕ) → GoesWrong toks one → GoesWrong toks two → one < two → ⊥
not_later toks one two first second less =
    let whole : first.front ++ first.rest ≡ second.front ++ second.rest = sym first.parts ∙ second.parts in
    let a = ap length whole in
    let n = longer first.front first.rest second.front second.rest whole
    (omega (arith, a, less, first.place, second.place, length-append first.front first.rest, length-append second.front second.rest)) in
    second.wrong n.0 (n.1 ++ first.rest) n.3 (shorter_begins second.front n.0 n.1 (subst Begins n.2 first.begins))

ordered : (one two : ℕ) → (one < two) ⊎ ((one ≡ two) ⊎ (two < one))
ordered zero zero = inr (inl refl)
ordered zero (suc two) = inl (omega arith)
ordered (suc one) zero = inr (inr (omega arith))
ordered (suc one) (suc two) = elim (ordered one two) [ inl less ↦ inl (omega (arith, less)) | inr (inl same) ↦ inr (inl (ap suc same)) | inr (inr more) ↦ inr (inr (omega (arith, more))) ]

less_or_same : (one two : ℕ) → (one < two → ⊥) → (two < one → ⊥) → one ≡ two
less_or_same one two a b = elim (ordered one two) [ inl less ↦ absurd (a less) | inr (inl same) ↦ same | inr (inr more) ↦ absurd (b more) ]

one_place_is_wrong : (toks : Tokens) (one two : ℕ) → GoesWrong toks one → GoesWrong toks two → one ≡ two
one_place_is_wrong toks one two first second = less_or_same one two (not_later toks one two first second) (not_later toks two one second first)

-- ---- at a nesting

-- tokens that go wrong later go on here
later_begins : (toks front rest : Tokens) (t : Token) (others : Tokens) (count : ℕ) → toks ≡ front ++ rest → rest ≡ t ∷ others → GoesWrong toks count → count < length rest → Begins (front ++ t ∷ [])
later_begins toks front rest t others count parts is g less =
    let whole : g.front ++ g.rest ≡ front ++ rest = sym g.parts ∙ parts in
    let a = ap length whole in
    let n = longer g.front g.rest front rest whole (omega (arith, a, less, g.place, length-append g.front g.rest, length-append front rest)) in
    let same = same_parts n.0 t (n.1 ++ g.rest) others (sym n.3 ∙ is) in
    subst (λ (z : Token). Begins (front ++ z ∷ [])) same.0 (shorter_begins front n.0 n.1 (subst Begins n.2 g.begins))

further_begins : (big : ℕ) (toks front rest : Tokens) (t : Token) (others : Tokens) (o : Outcome Tree) → suc (length toks) < big → reading.program big toks ≡ o → toks ≡ front ++ rest → rest ≡ t ∷ others → left o < length rest → Begins (front ++ t ∷ [])
further_begins big toks front rest t others (Ok (tree, [])) fits h parts is far =
    let derived = reading_is_sound big toks tree h in
    let whole : toks ≡ (front ++ t ∷ others) ++ [] = parts ∙ ap (λ (z : Tokens). front ++ z) is ∙ sym (append-nil (front ++ t ∷ others)) in
    shorter_begins front t others ([], tree, (big, subst (λ (z : Tokens). grammar.program big z tree) whole derived))
further_begins big toks front rest t others (Ok (tree, u ∷ more)) fits h parts is far =
    let long = ap length is in
    later_begins toks front rest t others (length (u ∷ more)) parts is (leftover_is_wrong big toks tree u more h) (omega (arith, far, long))
further_begins big toks front rest t others (Err (Syntax count)) fits h parts is far =
    let long = ap length is in
    later_begins toks front rest t others count parts is (syntax_is_wrong big toks count h) (omega (arith, far, long))
further_begins big toks front rest t others (Err (Nesting count)) fits h parts is far = let e = ((exact_program big).reach.faults toks (Nesting count) fits h).1 in absurd (cc e)
further_begins big toks front rest t others (Err Memory) fits h parts is far = let e = ((exact_program big).reach.faults toks Memory fits h).1 in absurd (cc e)

-- no program within the nestings begins with the token that opens one too many
none_within : (room : ℕ) (toks : Tokens) (count : ℕ) → reading.program room toks ≡ Err (Nesting count) → (front rest : Tokens) (t : Token) (others more : Tokens) (tree : Tree) → toks ≡ front ++ rest → length rest ≡ count → rest ≡ t ∷ others
    → grammar.program room ((front ++ t ∷ []) ++ more) tree → ⊥
none_within room toks count h front rest t others more tree parts place is derived =
    let up : Tokens = front ++ t ∷ [] in
    let whole : toks ≡ up ++ others = parts ∙ ap (λ (z : Tokens). front ++ z) is ∙ sym (append_assoc front (t ∷ []) others) in
    let one : reading.program room (up ++ others) ≡ Err (Nesting count) = ap (reading.program room) (sym whole) ∙ h in
    let two : reading.program room (up ++ more) ≡ Ok (tree, []) = reading_is_complete room (up ++ more) tree derived in
    let local = (exact_program room).reach.local in
    let long = ap left one in
    let all = ap length is in
    stops_within (reading.program room up) (reading.program room (up ++ others)) (reading.program room (up ++ more)) others more tree (local up others) (local up more) (omega (arith, long, place, all)) two

-- where reading ends at a nesting, the token there opens one too many
nesting_opens : (room : ℕ) (toks : Tokens) (count : ℕ) → reading.program room toks ≡ Err (Nesting count) → Opens room toks count
nesting_opens room toks count h =
    let big : ℕ = room + length toks + 2 in
    let far = further room big toks count (omega arith) h in
    let o : Opener toks count = subst (λ z. Shows room toks z) h ((exact_program room).shows toks) in
    record {
      front = o.front;
      opener = o.token;
      others = o.others;
      parts = o.parts;
      place = o.place;
      opens = o.opens;
      begins = further_begins big toks o.front (o.token ∷ o.others) o.token o.others (reading.program big toks) (omega arith) refl o.parts refl (omega (arith, far, o.place));
      none = λ more tree. none_within room toks count h o.front (o.token ∷ o.others) o.token o.others more tree o.parts o.place refl;
    }

-- ---- a token that opens a nesting, and that reading passes

-- Some tokens behind these make a program of them within so many nestings.
abbrev BeginsWithin : ℕ → Tokens → Type 0
BeginsWithin room toks = (more : Tokens) × (tree : Tree) × grammar.program room (toks ++ more) tree

no_tokens : (rest : Tokens) → length rest ≡ 0 → rest ≡ []
no_tokens [] h = refl
no_tokens (t ∷ rest) h = absurd (omega (arith, h))

-- the tokens that were read to their end, the last of which opens a nesting
ended_begins : (room : ℕ) (up others : Tokens) (o whole : Outcome Tree) → Opener up 1 → reading.program room up ≡ o → Shows room up o → Extends others o whole → left whole ≤ length others → BeginsWithin room up
ended_begins room up others (Ok (tree, [])) whole last h shows extends within = ([], tree, subst (λ (z : Tokens). grammar.program room z tree) (sym (append-nil up)) (reading_is_sound room up tree h))
ended_begins room up others (Ok (tree, u ∷ rest)) whole last h shows extends within = let long = ap left extends in absurd (omega (arith, long, within, length-append rest others))
ended_begins room up others (Err (Syntax zero)) whole last h shows extends within =
    let f = (exact_program room).stop up 0 (inr last) h in
    let same : up ≡ f.used = f.parts ∙ ap (λ (z : Tokens). f.used ++ z) (no_tokens f.rest f.left) ∙ append-nil f.used in
    (f.more, f.value, subst (λ (z : Tokens). grammar.program room (z ++ f.more) f.value) (sym same) f.spelled)
ended_begins room up others (Err (Syntax (suc n))) whole last h shows extends within = let long = ap left extends in absurd (omega (arith, long, within))
ended_begins room up others (Err (Nesting zero)) whole last h shows extends within = let place = shows.place in absurd (omega (arith, place))
ended_begins room up others (Err (Nesting (suc n))) whole last h shows extends within = let long = ap left extends in absurd (omega (arith, long, within))
ended_begins room up others (Err Memory) whole last h shows extends within = absurd shows

passed_begins : (room : ℕ) (toks front : Tokens) (opener : Token) (others : Tokens) → toks ≡ front ++ opener ∷ others → opens_nesting opener.kind ≡ true → left (reading.program room toks) ≤ length others → BeginsWithin room (front ++ opener ∷ [])
passed_begins room toks front opener others parts opens within =
    let up : Tokens = front ++ opener ∷ [] in
    let whole : up ++ others ≡ toks = append_assoc front (opener ∷ []) others ∙ sym parts in
    let last : Opener up 1 = record { front = front; token = opener; others = []; parts = refl; place = refl; opens = opens } in
    let exact = exact_program room in
    ended_begins room up others (reading.program room up) (reading.program room (up ++ others)) last refl (exact.shows up) (exact.reach.local up others)
    (subst (λ (z : Tokens). left (reading.program room z) ≤ length others) (sym whole) within)

-- so none that reading passes opens one too many
none_passed : (room : ℕ) (toks : Tokens) (before : ℕ) → Opens room toks before → left (reading.program room toks) < before → ⊥
none_passed room toks before o less =
    let b = passed_begins room toks o.front o.opener o.others o.parts o.opens (omega (arith, less, o.place)) in
    o.none b.0 b.1 b.2

-- where tokens go wrong, none behind opens a nesting
none_behind : (room : ℕ) (toks : Tokens) (count before : ℕ) → GoesWrong toks count → Opens room toks before → before ≤ count → ⊥
none_behind room toks count before g o le =
    let up : Tokens = o.front ++ o.opener ∷ [] in
    let whole : up ++ o.others ≡ g.front ++ g.rest = append_assoc o.front (o.opener ∷ []) o.others ∙ sym o.parts ∙ g.parts in
    let long = ap length whole in
    let n = longer up o.others g.front g.rest whole (omega (arith, long, le, o.place, g.place, length-append up o.others, length-append g.front g.rest)) in
    g.wrong n.0 (n.1 ++ o.others) n.3 (shorter_begins g.front n.0 n.1 (subst Begins n.2 o.begins))

wrong_is_fault : (room : ℕ) (toks : Tokens) (count : ℕ) → left (reading.program room toks) ≡ count → GoesWrong toks count → FaultOf room toks (Syntax count)
wrong_is_fault room toks count at g = (
  g,
  λ before o. elim (ordered count before) [
    | inl less ↦ none_passed room toks before o (omega (arith, at, less))
    | inr (inl same) ↦ none_behind room toks count before g o (omega (arith, same))
    | inr (inr more) ↦ none_behind room toks count before g o (omega (arith, more))
  ],
)

first_opens : (room : ℕ) (toks : Tokens) (count before : ℕ) → left (reading.program room toks) ≡ count → Opens room toks before → before ≤ count
first_opens room toks count before at o = elim (ordered count before) [
  | inl less ↦ absurd (none_passed room toks before o (omega (arith, at, less)))
  | inr (inl same) ↦ omega (arith, same)
  | inr (inr more) ↦ omega (arith, more)
]

pub fault_is_exact : FaultIsExact
fault_is_exact room toks (Syntax count) h = wrong_is_fault room toks count (ap left h) (syntax_is_wrong room toks count h)
fault_is_exact room toks (Nesting count) h = (nesting_opens room toks count h, λ before o. first_opens room toks count before (ap left h) o)
fault_is_exact room toks Memory h = subst (λ z. Shows room toks z) h ((exact_program room).shows toks)

pub leftover_is_exact : LeftoverIsExact
leftover_is_exact room toks tree t rest h = wrong_is_fault room toks (length (t ∷ rest)) (ap left h) (leftover_is_wrong room toks tree t rest h)

-- ---- one fault

same_place : (one two : ℕ) → one ≤ two → two ≤ one → one ≡ two
same_place one two a b = less_or_same one two (λ less. omega (arith, less, b)) (λ less. omega (arith, less, a))

pub fault_is_unique : FaultIsUnique
fault_is_unique room toks (Syntax one) (Syntax two) a b = ap Syntax (one_place_is_wrong toks one two a.0 b.0)
fault_is_unique room toks (Syntax one) (Nesting two) a b = absurd (a.1 two b.0)
fault_is_unique room toks (Nesting one) (Syntax two) a b = absurd (b.1 one a.0)
fault_is_unique room toks (Nesting one) (Nesting two) a b = ap Nesting (same_place one two (b.1 one a.0) (a.1 two b.0))
fault_is_unique room toks Memory two a b = absurd a
fault_is_unique room toks one Memory a b = absurd b

pub programs_have_no_fault : ProgramsHaveNoFault
programs_have_no_fault room toks tree (Syntax count) derived fault = fault.0.none tree (room, derived)
programs_have_no_fault room toks tree (Nesting count) derived fault =
    let o = fault.0 in
    let whole = o.parts ∙ sym (append_assoc o.front (o.opener ∷ []) o.others) in
    o.none o.others tree (subst (λ (z : Tokens). grammar.program room z tree) whole derived)
programs_have_no_fault room toks tree Memory derived fault = fault
