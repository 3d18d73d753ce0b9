-- The trial's program breaks no rule.
use Rattle.std.proofs.Common.{◌≡◌, ℕ, pos, Bool, true, false, not, ◌&&◌, List, [], ◌∷◌, ◌++◌, None, Some, refl, sym, ap, subst, ◌∙◌}
use Rattle.std.specs.List.{list_any}
use Rattle.setl_tree.specs.declared.expr.BinaryOp.TheVariants as op
use Rattle.setl_tree.specs.declared.expr.Relation.TheVariants as rel
use Rattle.setl_tree.specs.declared.expr.Prefix.TheVariants as pre
use Rattle.setl_tree.specs.declared.expr.Bound.TheVariants as bd
use Rattle.setl_tree.specs.declared.stmt.FromEnd.TheVariants as fr
use Rattle.setl_tree.specs.declared.stmt.Stmt.{Stmt}
use Rattle.setl_names.specs.Breaks.{breaks, head_breaks, all_occurrence_breaks, first_break, tagged}
use Rattle.setl_names.specs.Names.{Name, has}
use Rattle.setl_names.specs.Variables.{variables}
use Rattle.setl_names.specs.declared.around.Around.{Around}
use Rattle.setl_names.specs.Occurrences.{unnamed, none, named, loose_list, part}
use Rattle.setl_names.specs.Occurrences as n
use Rattle.setl_names.specs.Statements.{Told, all_told, stmt_told}
use Rattle.setl_tree.specs.declared.mode.Attribute.TheVariants as at
use Rattle.setl_modes_written.specs.Written.{Simple, Element, Set, Mmap, written}
use Rattle.setl_modes_declarations.specs.Rules.{lines_of_names}
use Rattle.setl_modes_declarations.specs.Declares.{name_breaks, mode_breaks}
use Rattle.setl_top_rules.specs.Rules.{all_breaks}
use Rattle.setl_top_trial.proofs.Standing as s
use Rattle.setl_top_trial.proofs.TrialTree.{declared, node, int, map_mode, set_mode, modes, g, seen, todo, edge, x, y, component, reading_loop, following_loop, working_loop, body, trial_tree}

-- ---- what stands in its statements

-- in the main program, outside loops
abbrev outside : Around
outside = record { in_loop = false; in_procedure = false }

abbrev Known : Stmt → Type 0
Known z = (t : Told) × s.Is stmt_told z t

abbrev reading : Known reading_loop
reading = (
  _,
  s.statement 9 (s.while (s.compare rel.NotEqual (s.name edge) s.om)
      (s.more (s.statement 9 (s.update g op.With (s.alone (s.braces (s.alone (edge_part 1)))) (edge_part 2)))
      (s.alone (s.statement 9 (s.read (edge ∷ [])))))),
)
  where
    edge_part : (i : ℕ) → s.Is part (component i) (unnamed (n.selected (record { standing = named edge; name = Some edge }) (record { standing = loose_list (unnamed none ∷ []); list = Some (unnamed none ∷ []) } ∷ [])))
    edge_part i = s.selected (s.name edge) (s.alone (s.round (s.alone (s.number (pos i)))))

abbrev following : Known following_loop
following = (
  _,
  s.statement 14 (s.for_all (s.alone (s.over (bd.Name y) (s.selected (s.name g) (s.alone (s.braces (s.alone (s.name x)))))))
      (s.alone (s.statement 14 (s.update todo op.With s.empty (s.name y))))),
)

abbrev working : Known working_loop
working = (
  _,
  s.statement 10 (s.while (s.compare rel.NotEqual (s.name todo) (s.tuple (s.list s.empty)))
      (s.more (s.statement 11 (s.take x fr.Fromb todo s.empty))
      (s.alone (s.statement 12 (s.if_then (s.branch (s.compare rel.Notin (s.name x) (s.name seen))
      (s.more (s.statement 13 (s.update seen op.With s.empty (s.name x))) (s.alone following.1)))))))),
)

abbrev body_told : (ts : List Told) × s.Are stmt_told body ts
body_told = (
  _,
  s.more (s.statement 7 (s.assign g s.empty (s.set (s.list s.empty))))
      (s.more (s.statement 7 (s.assign seen s.empty (s.set (s.list s.empty))))
      (s.more (s.statement 7 (s.assign todo s.empty (s.tuple (s.list (s.alone (s.number (pos 1)))))))
      (s.more (s.statement 8 (s.read (edge ∷ [])))
      (s.more reading.1
      (s.more working.1
      (s.alone (s.statement 17 (s.print (s.alone (s.prefixed (pre.Size ∷ []) (s.name seen))))))))))),
)

names_sound : breaks trial_tree ≡ []
names_sound = subst (λ (ts : List Told). head_breaks trial_tree ++ (all_occurrence_breaks [] (all_told ts outside) ++ []) ≡ []) (sym body_told.1.same) refl

-- ---- its declarations

int_written : s.Is written int (Simple None)
int_written = s.mode 3 None s.int

map_written : s.Is written map_mode (Mmap (Some at.Local) (Element None 4 node) (Set (Some at.Sparse) (Element None 4 node)))
map_written = s.mode 4 (Some at.Local) (s.map_of (s.mode 4 None (s.element 4 node)) (s.mode 4 (Some at.Sparse) (s.set_of (s.mode 4 None (s.element 4 node)))))

set_written : s.Is written set_mode (Set (Some at.Remote) (Element None 5 node))
set_written = s.mode 5 (Some at.Remote) (s.set_of (s.mode 5 None (s.element 5 node)))

modes_sound : mode_breaks modes ≡ []
modes_sound = rw (int_written.same, map_written.same, set_written.same) refl

-- whether a name is a variable, where these stand in the statements
abbrev found : List Told → Name → Bool
found ts v = has (variables [] (all_told ts outside)) v

declared_sound : name_breaks trial_tree ≡ []
declared_sound = subst
    (λ (ts : List Told).
    tagged 20 (lines_of_names (λ v. list_any (λ (b : Bool). b) (found ts v ∷ [])) (declared 3 node))
    ++ tagged 24 (lines_of_names (λ v. not (found ts v && true)) (declared 4 g ++ declared 5 seen)) ≡ [])
    (sym body_told.1.same) refl

pub no_break : first_break (all_breaks trial_tree) ≡ None
no_break = ap first_break (ap (λ bs. bs ++ (name_breaks trial_tree ++ mode_breaks modes)) names_sound ∙ (ap (λ bs. bs ++ mode_breaks modes) declared_sound ∙ modes_sound))
