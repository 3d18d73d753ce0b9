-- What calls and selections become has values for literals, where their parts do.
use Rattle.std.proofs.Common.{ℕ, List, [], ◌∷◌, Option, Some, None}
use Rattle.setl_tree.specs.declared.tree.Param.{Param}
use Rattle.setl_tree.specs.declared.tree.Passing.{Passing}
use Rattle.setl_tree.specs.declared.tree.Passing.TheVariants as pa
use Rattle.setl_names.specs.Names.{Name as Word}
use Rattle.setl_operators_table.specs.declared.Operator.{Operator}
use Rattle.setl_operators_table.specs.declared.Operator.TheVariants.{Get, Images}
use Rattle.setl_program.specs.Program.{Expr, wr_argument, rw_argument}
use Rattle.setl_program.specs.Scope.{procedure_of}
use Rattle.setl_program.specs.Expressions as q
use Rattle.setl_top_values.proofs.Languages.{Each, Maybe}
use Rattle.setl_top_values.proofs.Standing.{ExprStands, BeforeArguments, arguments_stand}
use Rattle.setl_top_values.proofs.Parts.{Makes, PartStands, ListStands, BehindStands, listed_stands, optional_stands, by_term}

-- ---- calls

wr_stands : (o : Option Word) (x : q.Part) → PartStands x → Makes BeforeArguments (q.variable_argument wr_argument o x)
wr_stands None x h = record { at = λ s m rest g. (h.term.at s m, g) }
wr_stands (Some y) x h = record { at = λ s m rest g. g }

rw_stands : (o : Option Word) (x : q.Part) → PartStands x → Makes BeforeArguments (q.variable_argument rw_argument o x)
rw_stands None x h = record { at = λ s m rest g. (h.term.at s m, g) }
rw_stands (Some y) x h = record { at = λ s m rest g. g }

argument_stands : (way : Passing) (x : q.Part) → PartStands x → Makes BeforeArguments (q.argument way x)
argument_stands pa.Rd x h = record { at = λ s m rest g. (h.term.at s m, g) }
argument_stands pa.Wr x h = wr_stands x.name x h
argument_stands pa.Rw x h = rw_stands x.name x h

passed_stand : (ps : List Param) (xs : List q.Part) → Each PartStands xs → Makes (Each BeforeArguments) (q.arguments ps xs)
passed_stand [] [] h = record { at = λ s m. tt }
passed_stand [] (x ∷ xs) h = record { at = λ s m. tt }
passed_stand (p ∷ ps) [] h = record { at = λ s m. tt }
passed_stand (p ∷ ps) (x ∷ xs) h = record { at = λ s m. ((argument_stands p.passing x h.0).at s m, (passed_stand ps xs h.1).at s _) }

pub call_stands : (k : ℕ) (ps : List Param) (xs : List q.Part) → Each PartStands xs → Makes ExprStands (q.call k ps xs)
call_stands k ps xs h = record { at = λ s m. arguments_stand (q.arguments ps xs s m).0 ((passed_stand ps xs h).at s m) }

-- ---- selectors

at_list_stands : (f : Operator) (xs : List q.Part) → Each PartStands xs → (e : Expr) → ExprStands e → Makes ExprStands (q.at_list f xs e)
at_list_stands f xs h e g = record { at = λ s m. (g, ((listed_stands xs h).at s m, tt)) }

bounded_stands : (e i : Expr) (j : Option Expr) → ExprStands e → ExprStands i → Maybe ExprStands j → ExprStands (q.with_bound e i j)
bounded_stands e i None f g h = (f, (g, tt))
bounded_stands e i (Some j) f g h = (f, (g, (h, tt)))

pub round_stands : (xs : List q.Part) → Each PartStands xs → BehindStands (record { applied = q.at_list Get xs; selector = q.round_list xs; list = Some xs })
round_stands xs h = record {
  applied = at_list_stands Get xs h;
  selector = record { at = λ s m rest g. ((listed_stands xs h).at s m, g) };
  list = h;
}

pub braces_stand : (xs : List q.Part) → Each PartStands xs → BehindStands (record { applied = q.at_list Images xs; selector = q.brace_list xs; list = None })
braces_stand xs h = record {
  applied = at_list_stands Images xs h;
  selector = record { at = λ s m rest g. ((listed_stands xs h).at s m, g) };
  list = tt;
}

pub slice_stands : (a : q.Part) (b : Option q.Part) → PartStands a → Maybe PartStands b → BehindStands (record { applied = q.at_bounds a b; selector = q.round_part a; list = None })
slice_stands a b h i = record {
  applied = λ e g. record { at = λ s m. bounded_stands e _ _ g (h.term.at s m) ((optional_stands b i).at s _) };
  selector = record { at = λ s m rest g. (h.term.at s m, g) };
  list = tt;
}

-- ---- selections

selected_stands : (bs : List q.Behind) → Each BehindStands bs → (e : Expr) → ExprStands e → Makes ExprStands (q.selected e bs)
selected_stands [] h e g = record { at = λ s m. g }
selected_stands (b ∷ bs) h e g = record { at = λ s m. (selected_stands bs h.1 (b.applied e s m).0 ((h.0.applied e g).at s m)).at s _ }

application_stands : (found : Option (ℕ × List Param)) (f : Word) (xs : List q.Part) → Each PartStands xs → Makes ExprStands (q.application found f xs)
application_stands None f xs h = record { at = λ s m. (at_list_stands Get xs h (q.named f s) tt).at s m }
application_stands (Some r) f xs h = record { at = λ s m. (call_stands r.0 r.1 xs h).at s m }

by_list_stands : (f : Word) (l : Option (List q.Part)) (b : q.Behind) (bs : List q.Behind) → ListStands l → BehindStands b → Each BehindStands bs → Makes ExprStands (q.by_list f l (b ∷ bs) bs)
by_list_stands f None b bs g h i = record { at = λ s m. (selected_stands (b ∷ bs) (h, i) (q.named f s) tt).at s m }
by_list_stands f (Some xs) b bs g h i = record {
  at = λ s m. (selected_stands bs i (q.application (procedure_of s f) f xs s m).0 ((application_stands (procedure_of s f) f xs g).at s m)).at s _;
}

by_name_stands : (o : Option Word) (x : q.Part) (bs : List q.Behind) → PartStands x → Each BehindStands bs → Makes ExprStands (q.by_name o x bs)
by_name_stands None x bs g h = record { at = λ s m. (selected_stands bs h (x.term s m).0 (g.term.at s m)).at s _ }
by_name_stands (Some f) x [] g h = record { at = λ s m. tt }
by_name_stands (Some f) x (b ∷ bs) g h = record { at = λ s m. (by_list_stands f b.list b bs h.0.list h.0 h.1).at s m }

pub selection_stands : (x : q.Part) (bs : List q.Behind) → PartStands x → Each BehindStands bs → PartStands (q.part_by (q.selection x bs))
selection_stands x bs g h = by_term (q.selection x bs) (record { at = λ s m. (by_name_stands x.name x bs g h).at s m })
