-- Formers, step by step.
use Rattle.std.proofs.Common.{◌≡◌, ◌<◌, ◌+◌, ◌∙◌, ℕ, suc, true, List, ◌∷◌, ◌++◌, map, drop, take, length, get_or, Option, sym, ap, append_assoc, add-one, drop-cons}
use Rattle.setl_tree.specs.declared.expr.Iter.{Iter}
use Rattle.setl_names.specs.declared.occurrence.Occurrence.{Occurrence}
use Rattle.setl_names_walk.specs.declared.scope.Scope.{Scope}
use Rattle.setl_names_walk.specs.declared.scope.Mark.{Mark}
use Rattle.setl_names_walk.specs.declared.walk.Walk.{Walk}
use Rattle.setl_names.specs.Names.{Name, with_names}
use Rattle.setl_names.specs.Occurrences.{Part, Turn, turn, names_of_turns, own_turns, optional_part, bound, bound_names, former, filter}
use Rattle.setl_names_walk.specs.Scopes.{mark_of, back_to}
use Rattle.setl_names_walk.specs.Walks.{here, after, with_own, inside_former, with_filter}
use Rattle.setl_names_walk.proofs.NameLists.{taken_back, with_names_append}

-- a walk with another scope
abbrev pub scoped : Scope → Walk → Walk
scoped s w = record { alloc = w.alloc; scope = s; found = w.found }

-- a walk with other names that mean a former's own
abbrev pub owning : List Name → Walk → Walk
owning names w = scoped (record { own = names; inside = w.scope.inside }) w

-- the scope before some names were put into both of its lists
scope_back : (s : Scope) (names : List Name) (m : Mark) → m ≡ mark_of s → back_to m (record { own = with_names s.own names; inside = with_names s.inside names }) ≡ s
scope_back s names m em =
    ap (λ (z : Mark). back_to z (record { own = with_names s.own names; inside = with_names s.inside names })) em
    ∙ ap (λ (own : List Name). record { own = own; inside = take (length s.inside) (with_names s.inside names) }) (taken_back s.own names)
    ∙ ap (λ (inside : List Name). record { own = s.own; inside = inside }) (taken_back s.inside names)

four : (f a b c d : List Occurrence) → (((f ++ a) ++ b) ++ c) ++ d ≡ f ++ (a ++ (b ++ (c ++ d)))
four f a b c d = append_assoc ((f ++ a) ++ b) c d ∙ append_assoc (f ++ a) b (c ++ d) ∙ append_assoc f a (b ++ (c ++ d))

-- a former from the walk w0: its names put in, taken off behind the value, put in again, and the scope as before
pub former_walked : (line : ℕ) (v : Part) (is : List Turn) (c : Option Part) (m : Mark) (w0 w1 w2 w4 w5 w7 : Walk) (own : List Name) (s : Scope) → m ≡ mark_of w0.scope →
    w1 ≡ with_own (names_of_turns is) (inside_former (names_of_turns is) w0) → w2 ≡ after (v.standing (here line w1)) w1 → own ≡ take m.own w2.scope.own →
    w4 ≡ after (own_turns is (here line (owning own w2))) (with_own (names_of_turns is) (owning own w2)) → w5 ≡ after (optional_part c (here line w4)) w4 →
    s ≡ back_to m w5.scope → w7 ≡ after (bound (names_of_turns is) (here line (scoped s w5))) (scoped s w5) → w7 ≡ after (former v is c (here line w0)) w0
former_walked line v is c m w0 w1 w2 w4 w5 w7 own s em e1 e2 eo e4 e5 es e7 =
    let names : List Name = names_of_turns is in
    let walk_1 : Walk = with_own names (inside_former names w0) in
    let walk_2 : Walk = after (v.standing (here line walk_1)) walk_1 in
    let walk_3 : Walk = owning w0.scope.own walk_2 in
    let walk_4 : Walk = after (own_turns is (here line walk_3)) (with_own names walk_3) in
    let walk_5 : Walk = after (optional_part c (here line walk_4)) walk_4 in
    let d2 : w2 ≡ walk_2 = e2 ∙ ap (λ (w : Walk). after (v.standing (here line w)) w) e1 in
    let back : own ≡ w0.scope.own =
    eo ∙ ap (λ (w : Walk). take m.own w.scope.own) d2 ∙ ap (λ (z : Mark). take z.own (with_names w0.scope.own names)) em ∙ taken_back w0.scope.own names in
    let d3 : owning own w2 ≡ walk_3 = ap (λ (o : List Name). owning o w2) back ∙ ap (λ (w : Walk). owning w0.scope.own w) d2 in
    let d4 : w4 ≡ walk_4 = e4 ∙ ap (λ (w : Walk). after (own_turns is (here line w)) (with_own names w)) d3 in
    let d5 : w5 ≡ walk_5 = e5 ∙ ap (λ (w : Walk). after (optional_part c (here line w)) w) d4 in
    let d6 : s ≡ w0.scope = es ∙ ap (λ (w : Walk). back_to m w.scope) d5 ∙ scope_back w0.scope names m em in
    e7
    ∙ ap (λ (z : Scope). after (bound names (here line w0)) (scoped z w5)) d6
    ∙ ap (λ (w : Walk). after (bound names (here line w0)) (scoped w0.scope w)) d5
    ∙ ap (λ (us : List Occurrence). record { alloc = w0.alloc; scope = w0.scope; found = us }) (four w0.found (v.standing (here line walk_1)) (own_turns is (here line walk_3)) (optional_part c (here line walk_4)) (bound names (here line w0)))

-- a former that collects what it binds
pub filter_walked : (line : ℕ) (names : List Name) (x c : Part) (m : Mark) (w0 w1 w2 w3 w4 w6 : Walk) (s : Scope) → m ≡ mark_of w0.scope →
    w1 ≡ with_filter line names w0 → w2 ≡ after (x.standing (here line w1)) w1 → w3 ≡ with_own names w2 → w4 ≡ after (c.standing (here line w3)) w3 →
    s ≡ back_to m w4.scope → w6 ≡ after (bound names (here line (scoped s w4))) (scoped s w4) → w6 ≡ after (filter names x c (here line w0)) w0
filter_walked line names x c m w0 w1 w2 w3 w4 w6 s em e1 e2 e3 e4 es e6 =
    let walk_1 : Walk = with_filter line names w0 in
    let walk_2 : Walk = after (x.standing (here line walk_1)) walk_1 in
    let walk_3 : Walk = with_own names walk_2 in
    let walk_4 : Walk = after (c.standing (here line walk_3)) walk_3 in
    let d2 : w2 ≡ walk_2 = e2 ∙ ap (λ (w : Walk). after (x.standing (here line w)) w) e1 in
    let d3 : w3 ≡ walk_3 = e3 ∙ ap (with_own names) d2 in
    let d4 : w4 ≡ walk_4 = e4 ∙ ap (λ (w : Walk). after (c.standing (here line w)) w) d3 in
    let d5 : s ≡ w0.scope = es ∙ ap (λ (w : Walk). back_to m w.scope) d4 ∙ scope_back w0.scope names m em in
    e6
    ∙ ap (λ (z : Scope). after (bound names (here line w0)) (scoped z w4)) d5
    ∙ ap (λ (w : Walk). after (bound names (here line w0)) (scoped w0.scope w)) d4
    ∙ ap (λ (us : List Occurrence). record { alloc = w0.alloc; scope = w0.scope; found = us }) (four w0.found (bound_names true names (here line (inside_former names w0))) (x.standing (here line walk_1)) (c.standing (here line walk_3)) (bound names (here line w0)))

-- ---- iterators that bind a former's own names

-- the walk behind iterators
abbrev pub turned : ℕ → List Turn → Walk → Walk
turned line is w = after (own_turns is (here line w)) (with_own (names_of_turns is) w)

one_turn : (line : ℕ) (i : Turn) (is : List Turn) (w : Walk) → turned line is (with_own i.names (after (i.standing true (here line w)) w)) ≡ turned line (i ∷ is) w
one_turn line i is w =
    let later : List Occurrence = own_turns is (here line (with_own i.names w)) in
    ap (λ (own : List Name). record { alloc = w.alloc; scope = record { own = own; inside = w.scope.inside }; found = (w.found ++ i.standing true (here line w)) ++ later }) (with_names_append w.scope.own i.names (names_of_turns is))
    ∙ ap (λ (us : List Occurrence). record { alloc = w.alloc; scope = record { own = with_names w.scope.own (i.names ++ names_of_turns is); inside = w.scope.inside }; found = us }) (append_assoc w.found (i.standing true (here line w)) later)

split : (turns : List Iter) (i : ℕ) (x : Iter) → i < length turns → x ≡ get_or turns i x → drop i turns ≡ x ∷ drop (i + 1) turns
split turns i x h is = drop-cons turns i x h ∙ ap (λ (z : Iter). z ∷ drop (suc i) turns) (sym is) ∙ ap (λ n. x ∷ drop n turns) (sym (add-one i))

pub turn_walked : (line : ℕ) (turns : List Iter) (i : ℕ) (x : Iter) (w w1 w2 whole : Walk) → i < length turns → x ≡ get_or turns i x → turned line (map turn (drop i turns)) w ≡ whole →
    w1 ≡ after ((turn x).standing true (here line w)) w → w2 ≡ with_own (turn x).names w1 → turned line (map turn (drop (i + 1) turns)) w2 ≡ whole
turn_walked line turns i x w w1 w2 whole h is inv e1 e2 =
    ap (turned line (map turn (drop (i + 1) turns))) (e2 ∙ ap (with_own (turn x).names) e1)
    ∙ one_turn line (turn x) (map turn (drop (i + 1) turns)) w
    ∙ ap (λ (z : List Iter). turned line (map turn z) w) (sym (split turns i x h is))
    ∙ inv
