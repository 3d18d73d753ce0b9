-- What stands in an expression, in the order of the source's tokens.
use Rattle.std.specs.Prelude.{Bool, true, false, ◌||◌, List, [], ◌∷◌, ◌++◌, Option, Some, None}
use Rattle.setl_tree.specs.declared.expr.BinaryOp.{BinaryOp}
use Rattle.setl_tree.specs.declared.expr.Slot.{Slot}
use Rattle.setl_tree.specs.declared.expr.Slot.TheVariants as sl
use Rattle.setl_tree.specs.declared.expr.Bound.{Bound}
use Rattle.setl_tree.specs.declared.expr.Bound.TheVariants as bd
use Rattle.setl_tree.specs.declared.expr.Expr.{Expr, fold-Expr}
use Rattle.setl_tree.specs.declared.expr.Expr.TheOpen.{Expr-F, Inner-F, Iter-F, Selector-F}
use Rattle.setl_tree.specs.declared.expr.Inner.{Inner, fold-Inner}
use Rattle.setl_tree.specs.declared.expr.Iter.{Iter, fold-Iter}
use Rattle.setl_tree.specs.declared.expr.Selector.{Selector, fold-Selector}
use Rattle.setl_names.specs.declared.occurrence.Argument.{Argument}
use Rattle.setl_names.specs.declared.occurrence.Argument.TheVariants as arg
use Rattle.setl_names.specs.declared.occurrence.What.{What}
use Rattle.setl_names.specs.declared.occurrence.What.TheVariants as what
use Rattle.setl_names.specs.declared.occurrence.Occurrence.{Occurrence}
use Rattle.setl_names.specs.Names.{Name, has}
use Rattle.setl_names.specs.Places.{Place, inside_former, with_own}

-- What stands in a part of the program, by its place.
abbrev pub Standing : Type 0
Standing = Place → List Occurrence

abbrev pub at : Place → What → Occurrence
at p w = record { line = p.line; what = w }

-- nothing
abbrev pub none : Standing
none p = []

abbrev pub all_of : List Standing → Standing
all_of [] p = []
all_of (x ∷ xs) p = x p ++ all_of xs p

-- a name that doesn't stand before a list in round brackets
abbrev pub named : Name → Standing
named x p = at p (what.Name x (has p.own x)) ∷ []

-- a bound name, which is a former's own name or a variable
abbrev pub bound_name : (own : Bool) → Name → Standing
bound_name own x p = at p (what.Name x (own || has p.own x)) ∷ []

abbrev pub bound_names : (own : Bool) → List Name → Standing
bound_names own [] p = []
bound_names own (x ∷ xs) p = bound_name own x p ++ bound_names own xs p

abbrev pub all_named : List Name → Standing
all_named xs p = bound_names false xs p

-- names that a quantifier binds
abbrev pub all_quantified : List Name → Standing
all_quantified [] p = []
all_quantified (x ∷ xs) p = at p (what.Quantified x (has p.inside x)) ∷ all_quantified xs p

-- ---- bound names

abbrev pub names_of_slots : List Slot → List Name
names_of_slots [] = []
names_of_slots (sl.Name x ∷ slots) = x ∷ names_of_slots slots
names_of_slots (sl.Skip ∷ slots) = names_of_slots slots

abbrev pub names_of_bound : Bound → List Name
names_of_bound (bd.Name x) = x ∷ []
names_of_bound (bd.Pattern slots) = names_of_slots slots

-- ---- expressions

-- An expression: what stands in it, and its name if it is a name alone.
pub record Part : Type 0 where
  pub standing : Standing
  pub name : Option Name

abbrev pub unnamed : Standing → Part
unnamed s = record { standing = s; name = None }

-- An iterator: the names that it binds, and what stands in it where these are a former's own names or variables.
pub record Turn : Type 0 where
  pub names : List Name
  pub standing : (own : Bool) → Standing

-- A selector: what stands in it, and its expressions if it is a list in round brackets.
pub record Behind : Type 0 where
  pub standing : Standing
  pub list : Option (List Part)

abbrev pub standings : List Part → List Standing
standings [] = []
standings (x ∷ xs) = x.standing ∷ standings xs

abbrev pub all_parts : List Part → Standing
all_parts xs p = all_of (standings xs) p

abbrev pub optional_part : Option Part → Standing
optional_part None p = []
optional_part (Some x) p = x.standing p

abbrev pub operands : List (BinaryOp × Part) → Standing
operands [] p = []
operands (x ∷ xs) p = x.1.standing p ++ operands xs p

abbrev pub argument_named : Option Name → Place → Argument
argument_named None p = arg.Other
argument_named (Some x) p = arg.Name x (has p.own x) (has p.inside x)

abbrev pub arguments : List Part → Place → List Argument
arguments [] p = []
arguments (x ∷ xs) p = argument_named x.name p ∷ arguments xs p

-- a name before a list in round brackets, without what stands in the list
abbrev pub application : Name → List Part → Standing
application f xs p = at p (what.Applied f (has p.own f) (arguments xs p)) ∷ []

-- a name before a list in round brackets
abbrev pub applied : Name → List Part → Standing
applied f xs p = application f xs p ++ all_parts xs p

-- a list in round brackets that doesn't stand behind a name
abbrev pub loose_list : List Part → Standing
loose_list [] p = at p what.EmptyList ∷ []
loose_list (x ∷ xs) p = all_parts (x ∷ xs) p

abbrev pub all_behind : List Behind → Standing
all_behind [] p = []
all_behind (x ∷ xs) p = x.standing p ++ all_behind xs p

-- ---- selections

-- a part and the first selector behind it, by the part's name and by the selector's list in round brackets, if there are
abbrev pub by : Option Name → Option (List Part) → Standing → Standing → Standing
by None list s t p = s p ++ t p
by (Some f) None s t p = s p ++ t p
by (Some f) (Some xs) s t p = applied f xs p

-- a primary expression and the first selector behind it: a name before a list in round brackets, or anything else
abbrev pub before : Part → Behind → Standing
before x s p = by x.name s.list x.standing s.standing p

-- a selection
abbrev pub selected : Part → List Behind → Standing
selected x [] p = x.standing p
selected x (s ∷ ss) p = before x s p ++ all_behind ss p

-- a selection of a name
abbrev pub name_selected : Name → List Behind → Standing
name_selected f [] p = named f p
name_selected f (s ∷ ss) p = by (Some f) s.list (named f) s.standing p ++ all_behind ss p

-- ---- iterators

abbrev pub names_of_turns : List Turn → List Name
names_of_turns [] = []
names_of_turns (i ∷ is) = i.names ++ names_of_turns is

-- the names that one list of iterators binds
abbrev pub bound : List Name → Standing
bound names p = at p (what.Bound names) ∷ []

-- iterators that bind variables
abbrev pub variable_turns : List Turn → Standing
variable_turns [] p = []
variable_turns (i ∷ is) p = i.standing false p ++ variable_turns is p

-- iterators that bind a former's own names, each of which sees the names of those before it
abbrev pub own_turns : List Turn → Standing
own_turns [] p = []
own_turns (i ∷ is) p = i.standing true p ++ own_turns is (with_own i.names p)

-- the iterators of a loop or a quantifier
abbrev pub ordinary_turns : List Turn → Standing
ordinary_turns is p = variable_turns is p ++ bound (names_of_turns is) p

-- the iterators of a quantified expression
abbrev pub quantified_turns : List Turn → Standing
quantified_turns is p = all_quantified (names_of_turns is) p ++ ordinary_turns is p

-- a former: the value and the condition see all names that it binds
abbrev pub former : Part → List Turn → Option Part → Standing
former x is c p =
    let names = names_of_turns is in
    let within = inside_former names p in
    let last = with_own names within in
    x.standing last ++ (own_turns is within ++ (optional_part c last ++ bound names within))

-- a former that collects what it binds
abbrev pub filter : List Name → Part → Part → Standing
filter names s c p =
    let within = inside_former names p in
    bound_names true names within ++ (s.standing within ++ (c.standing (with_own names within) ++ bound names within))

abbrev pub expr_step : Expr-F Part Standing Turn Behind → Part
expr_step (Expr-F.Number n) = unnamed none
expr_step (Expr-F.Text t) = unnamed none
expr_step Expr-F.Om = unnamed none
expr_step Expr-F.True = unnamed none
expr_step Expr-F.False = unnamed none
expr_step Expr-F.Newat = unnamed none
expr_step Expr-F.Eof = unnamed none
expr_step Expr-F.Ok = unnamed none
expr_step (Expr-F.Name x) = record { standing = named x; name = Some x }
expr_step (Expr-F.If a b c) = unnamed (λ p. a.standing p ++ (b.standing p ++ c.standing p))
expr_step (Expr-F.Set x) = unnamed x
expr_step (Expr-F.Tuple x) = unnamed x
expr_step (Expr-F.Chain first others) = unnamed (λ p. first.standing p ++ operands others p)
expr_step (Expr-F.Compare a o b) = unnamed (λ p. a.standing p ++ b.standing p)
expr_step (Expr-F.Prefixed ps x) = unnamed x.standing
expr_step (Expr-F.Selected x ss) = unnamed (selected x ss)
expr_step (Expr-F.Quantified q is x) = unnamed (λ p. quantified_turns is p ++ x.standing p)

abbrev pub inner_step : Inner-F Part Standing Turn Behind → Standing
inner_step (Inner-F.List xs) = all_parts xs
inner_step (Inner-F.Range a b c) = λ p. a.standing p ++ (optional_part b p ++ c.standing p)
inner_step (Inner-F.Former x is c) = former x is c
inner_step (Inner-F.Filter b s c) = filter (names_of_bound b) s c

abbrev pub iter_step : Iter-F Part Standing Turn Behind → Turn
iter_step (Iter-F.Over b s) = record { names = names_of_bound b; standing = λ own p. bound_names own (names_of_bound b) p ++ s.standing p }
iter_step (Iter-F.Image y f x) = record { names = y ∷ x ∷ []; standing = λ own p. bound_name own y p ++ (named f p ++ bound_name own x p) }

abbrev pub selector_step : Selector-F Part Standing Turn Behind → Behind
selector_step (Selector-F.Round xs) = record { standing = loose_list xs; list = Some xs }
selector_step (Selector-F.Slice a b) = record { standing = λ p. a.standing p ++ optional_part b p; list = None }
selector_step (Selector-F.Braces xs) = record { standing = all_parts xs; list = None }

abbrev pub part : Expr → Part
part = fold-Expr Part Standing Turn Behind expr_step inner_step iter_step selector_step

abbrev pub inner_standing : Inner → Standing
inner_standing = fold-Inner Part Standing Turn Behind expr_step inner_step iter_step selector_step

abbrev pub turn : Iter → Turn
turn = fold-Iter Part Standing Turn Behind expr_step inner_step iter_step selector_step

abbrev pub behind : Selector → Behind
behind = fold-Selector Part Standing Turn Behind expr_step inner_step iter_step selector_step

-- what stands in an expression
abbrev pub standing_in : Expr → Standing
standing_in x = (part x).standing
