-- Worked programs with their listings, and what they write and how they end, by the meaning and by the run of the code.
use Rattle.std.specs.Prelude.{◌≡◌, ℕ, true, List, [], ◌∷◌, codes, pos, Some, None}
use Rattle.setl_value.specs.Datum.{bool, int, text}
use Rattle.setl_model_runs.specs.Variable.{Global, Own, Bound}
use Rattle.setl_operators_table.specs.declared.Operator.TheVariants.{Abs, Size, Pow, FoldAdd, FoldMax, Add, Subtract, With, Less, Npow, Equal, NotEqual, Below, Above, In, Get, Images, Slice, Tail, SetOf, TupleOf, TupleRange}
use Rattle.setl_program.specs.declared.kinds.Collection.TheVariants.{OfSet, OfTuple}
use Rattle.setl_program.specs.declared.kinds.Connective.TheVariants.{And, Or, Implies}
use Rattle.setl_program.specs.declared.kinds.Quantifier.TheVariants.{Exists, Forall, NotExists}
use Rattle.setl_program.specs.declared.kinds.Source.TheVariants.{Values, Between, SetSteps}
use Rattle.setl_program.specs.declared.kinds.Taking.TheVariants.{TakeLeast, TakeFirst, TakeLast}
use Rattle.setl_tree.specs.declared.tree.Passing.TheVariants.{Rd, Wr, Rw}
use Rattle.setl_program.specs.Program.{Member, Components, Point, Literal, Undefined, Name, Apply, Connect, Choose, Former, Selection, Quantified, Call, Newat, Eof, Ok, no_expr, more_exprs, no_iterator, more_iterators, no_condition, only_if, no_argument, rd_argument, wr_argument, rw_argument, no_selector, round_selector, brace_selector, Assign, Update, AssignParts, TakeFrom, Perform, If, For, While, Quit, Continue, Fail, Stop, Pass, Return, Print, Read, no_stmt, more_stmts, Program}
use Rattle.setl_model_runs.specs.Events.{Om, Nothing, Wide, End, Done, Stopped}
use Rattle.setl_model.specs.Means.{Means}
use Rattle.setl_code.specs.CodeOf.{code_of}
use Rattle.setl_code.specs.Listing.{listing}
use Rattle.setl_code.specs.CodeMeans.{CodeMeans}

-- A program with its listing, what it reads and writes, and how it ends, with 300 turns.
pub record CodeRow : Type 0 where
  pub program : Program
  pub listing : List ℕ
  pub input : List ℕ
  pub out : List ℕ
  pub end : End

abbrev pub IsListed : CodeRow → Type 0
IsListed r = listing (code_of r.program) ≡ r.listing

abbrev pub Runs : CodeRow → Type 0
Runs r = CodeMeans (code_of r.program) r.program.modes r.input 300 true r.out r.end

abbrev pub IsMeant : CodeRow → Type 0
IsMeant r = Means r.program r.input 300 true r.out r.end

abbrev pub AllAreListed : List CodeRow → Type 0
AllAreListed [] = Unit {0}
AllAreListed (r ∷ rs) = IsListed r × AllAreListed rs

abbrev pub AllRun : List CodeRow → Type 0
AllRun [] = Unit {0}
AllRun (r ∷ rs) = Runs r × AllRun rs

abbrev pub AllAreMeant : List CodeRow → Type 0
AllAreMeant [] = Unit {0}
AllAreMeant (r ∷ rs) = IsMeant r × AllAreMeant rs

-- program p; var g; a := 1; print(f(a, b, a + 1) impl true and g = 1); proc f(rw x, wr y, z); y := z; x := if z > 1 then y else 3 end; g := 1; return x = y; end proc; end program;
abbrev pub calls : CodeRow
calls = record { program = record { name = codes "p"; vars = (codes "g" ∷ []); main = (more_stmts 1 (Assign (record { variable = (Own 0 (codes "a")); selectors = no_selector }) (Literal (int (pos 1)))) (more_stmts 1 (Print (more_exprs (Connect Implies (Call 0 (rw_argument (Own 0 (codes "a")) (wr_argument (Own 0 (codes "b")) (rd_argument (Apply Add (more_exprs (Name (Own 0 (codes "a"))) (more_exprs (Literal (int (pos 1))) no_expr))) no_argument)))) (Connect And (Literal (bool true)) (Apply Equal (more_exprs (Name (Global (codes "g"))) (more_exprs (Literal (int (pos 1))) no_expr))))) no_expr)) no_stmt)); end_line = 1; procedures = (record { name = codes "f"; parameters = (record { passing = Rw; name = codes "x"; line = 1 } ∷ record { passing = Wr; name = codes "y"; line = 1 } ∷ record { passing = Rd; name = codes "z"; line = 1 } ∷ []); body = (more_stmts 1 (Assign (record { variable = (Own 1 (codes "y")); selectors = no_selector }) (Name (Own 1 (codes "z")))) (more_stmts 1 (Assign (record { variable = (Own 1 (codes "x")); selectors = no_selector }) (Choose (Apply Above (more_exprs (Name (Own 1 (codes "z"))) (more_exprs (Literal (int (pos 1))) no_expr))) (Name (Own 1 (codes "y"))) (Literal (int (pos 3))))) (more_stmts 1 (Assign (record { variable = (Global (codes "g")); selectors = no_selector }) (Literal (int (pos 1)))) (more_stmts 1 (Return (Apply Equal (more_exprs (Name (Own 1 (codes "x"))) (more_exprs (Name (Own 1 (codes "y"))) no_expr)))) no_stmt)))); end_line = 1 } ∷ []); modes = [] }; listing = codes "main:\n0 int 1\n1 store a\n2 load a\n3 om\n4 load a\n5 int 1\n6 +\n7 call f\n8 store a\n9 store b\n10 impl 18\n11 true\n12 and 17\n13 load g\n14 int 1\n15 =\n16 bool\n17 bool\n18 print 1\n19 stop\nproc f:\n0 load z\n1 store y\n2 load z\n3 int 1\n4 >\n5 unless 8\n6 load y\n7 jump 9\n8 int 3\n9 store x\n10 int 1\n11 store g\n12 load x\n13 load y\n14 =\n15 return\n16 om\n17 return\n"; input = codes ""; out = codes "true\n"; end = Done }

-- program p; (for n in [1..5]) print(n); end for; end program;
abbrev pub counting : CodeRow
counting = record { program = record { name = codes "p"; vars = ([]); main = (more_stmts 1 (For (more_iterators (Member Between (Own 0 (codes "n"))) (more_exprs (Literal (int (pos 1))) (more_exprs (Literal (int (pos 5))) no_expr)) no_iterator) no_condition (more_stmts 1 (Print (more_exprs (Name (Own 0 (codes "n"))) no_expr)) no_stmt)) no_stmt); end_line = 1; procedures = ([]); modes = [] }; listing = codes "main:\n0 int 1\n1 int 5\n2 begin range\n3 next 8\n4 store n\n5 load n\n6 print 1\n7 jump 3\n8 stop\n"; input = codes ""; out = codes "1\n2\n3\n4\n5\n"; end = Done }

-- program p; s := {1,2,3}; n := 0; (for x in s) s less:= x; n +:= 1; end for; print(s, n); end program;
abbrev pub emptied_set : CodeRow
emptied_set = record { program = record { name = codes "p"; vars = ([]); main = (more_stmts 1 (Assign (record { variable = (Own 0 (codes "s")); selectors = no_selector }) (Apply SetOf (more_exprs (Literal (int (pos 1))) (more_exprs (Literal (int (pos 2))) (more_exprs (Literal (int (pos 3))) no_expr))))) (more_stmts 1 (Assign (record { variable = (Own 0 (codes "n")); selectors = no_selector }) (Literal (int (pos 0)))) (more_stmts 1 (For (more_iterators (Member Values (Own 0 (codes "x"))) (more_exprs (Name (Own 0 (codes "s"))) no_expr) no_iterator) no_condition (more_stmts 1 (Update Less (record { variable = (Own 0 (codes "s")); selectors = no_selector }) (Name (Own 0 (codes "x")))) (more_stmts 1 (Update Add (record { variable = (Own 0 (codes "n")); selectors = no_selector }) (Literal (int (pos 1)))) no_stmt))) (more_stmts 1 (Print (more_exprs (Name (Own 0 (codes "s"))) (more_exprs (Name (Own 0 (codes "n"))) no_expr))) no_stmt)))); end_line = 1; procedures = ([]); modes = [] }; listing = codes "main:\n0 int 1\n1 int 2\n2 int 3\n3 set 3\n4 store s\n5 int 0\n6 store n\n7 load s\n8 begin\n9 next 16\n10 store x\n11 load x\n12 less s\n13 int 1\n14 + n\n15 jump 9\n16 load s\n17 load n\n18 print 2\n19 stop\n"; input = codes ""; out = codes "{} 3\n"; end = Done }

-- program p; s := {1}; x := 1; print({x in s}, {y in s | y = 2}); end program;
abbrev pub enumeration_or_former : CodeRow
enumeration_or_former = record { program = record { name = codes "p"; vars = ([]); main = (more_stmts 1 (Assign (record { variable = (Own 0 (codes "s")); selectors = no_selector }) (Apply SetOf (more_exprs (Literal (int (pos 1))) no_expr))) (more_stmts 1 (Assign (record { variable = (Own 0 (codes "x")); selectors = no_selector }) (Literal (int (pos 1)))) (more_stmts 1 (Print (more_exprs (Apply SetOf (more_exprs (Apply In (more_exprs (Name (Own 0 (codes "x"))) (more_exprs (Name (Own 0 (codes "s"))) no_expr))) no_expr)) (more_exprs (Selection OfSet (Member Values (Bound 1 (codes "y"))) (more_exprs (Name (Own 0 (codes "s"))) no_expr) (Apply Equal (more_exprs (Name (Bound 1 (codes "y"))) (more_exprs (Literal (int (pos 2))) no_expr)))) no_expr))) no_stmt))); end_line = 1; procedures = ([]); modes = [] }; listing = codes "main:\n0 int 1\n1 set 1\n2 store s\n3 int 1\n4 store x\n5 load x\n6 load s\n7 in\n8 set 1\n9 newset\n10 load s\n11 begin\n12 next 23\n13 dup\n14 store y.1\n15 load y.1\n16 int 2\n17 =\n18 unless 21\n19 add 1\n20 jump 12\n21 drop\n22 jump 12\n23 print 2\n24 stop\n"; input = codes ""; out = codes "{true} {}\n"; end = Done }

-- program p; fail; end program;
abbrev pub fail_alone : CodeRow
fail_alone = record { program = record { name = codes "p"; vars = ([]); main = (more_stmts 1 Fail no_stmt); end_line = 1; procedures = ([]); modes = [] }; listing = codes "main:\n0 fail\n1 stop\n"; input = codes ""; out = codes ""; end = (Stopped Nothing 1) }

-- program p; print(+/ [1..4], +/ {}, max/ {3,9,4}); end program;
abbrev pub folds : CodeRow
folds = record { program = record { name = codes "p"; vars = ([]); main = (more_stmts 1 (Print (more_exprs (Apply FoldAdd (more_exprs (Apply TupleRange (more_exprs (Literal (int (pos 1))) (more_exprs (Literal (int (pos 4))) no_expr))) no_expr)) (more_exprs (Apply FoldAdd (more_exprs (Apply SetOf no_expr) no_expr)) (more_exprs (Apply FoldMax (more_exprs (Apply SetOf (more_exprs (Literal (int (pos 3))) (more_exprs (Literal (int (pos 9))) (more_exprs (Literal (int (pos 4))) no_expr)))) no_expr)) no_expr)))) no_stmt); end_line = 1; procedures = ([]); modes = [] }; listing = codes "main:\n0 int 1\n1 int 4\n2 range tuple\n3 fold +\n4 set 0\n5 fold +\n6 int 3\n7 int 9\n8 int 4\n9 set 3\n10 fold max\n11 print 3\n12 stop\n"; input = codes ""; out = codes "10 * 9\n"; end = Done }

-- program p; s := {1,2}; print({[x,y] : x in s, y in [1..x] | x /= y}); end program;
abbrev pub former : CodeRow
former = record { program = record { name = codes "p"; vars = ([]); main = (more_stmts 1 (Assign (record { variable = (Own 0 (codes "s")); selectors = no_selector }) (Apply SetOf (more_exprs (Literal (int (pos 1))) (more_exprs (Literal (int (pos 2))) no_expr)))) (more_stmts 1 (Print (more_exprs (Former OfSet (Apply TupleOf (more_exprs (Name (Bound 1 (codes "x"))) (more_exprs (Name (Bound 1 (codes "y"))) no_expr))) (more_iterators (Member Values (Bound 1 (codes "x"))) (more_exprs (Name (Own 0 (codes "s"))) no_expr) (more_iterators (Member Between (Bound 1 (codes "y"))) (more_exprs (Literal (int (pos 1))) (more_exprs (Name (Bound 1 (codes "x"))) no_expr)) no_iterator)) (only_if (Apply NotEqual (more_exprs (Name (Bound 1 (codes "x"))) (more_exprs (Name (Bound 1 (codes "y"))) no_expr))))) no_expr)) no_stmt)); end_line = 1; procedures = ([]); modes = [] }; listing = codes "main:\n0 int 1\n1 int 2\n2 set 2\n3 store s\n4 newset\n5 load s\n6 begin\n7 next 23\n8 store x.1\n9 int 1\n10 load x.1\n11 begin range\n12 next 7\n13 store y.1\n14 load x.1\n15 load y.1\n16 /=\n17 unless 12\n18 load x.1\n19 load y.1\n20 tuple 2\n21 add 2\n22 jump 12\n23 print 1\n24 stop\n"; input = codes ""; out = codes "{[2 1]}\n"; end = Done }

-- program p; f := {[1,2],[1,3],[2,5]}; print(f(1), f{1}, f(2), f{9}); end program;
abbrev pub images_of_a_map : CodeRow
images_of_a_map = record { program = record { name = codes "p"; vars = ([]); main = (more_stmts 1 (Assign (record { variable = (Own 0 (codes "f")); selectors = no_selector }) (Apply SetOf (more_exprs (Apply TupleOf (more_exprs (Literal (int (pos 1))) (more_exprs (Literal (int (pos 2))) no_expr))) (more_exprs (Apply TupleOf (more_exprs (Literal (int (pos 1))) (more_exprs (Literal (int (pos 3))) no_expr))) (more_exprs (Apply TupleOf (more_exprs (Literal (int (pos 2))) (more_exprs (Literal (int (pos 5))) no_expr))) no_expr))))) (more_stmts 1 (Print (more_exprs (Apply Get (more_exprs (Name (Own 0 (codes "f"))) (more_exprs (Literal (int (pos 1))) no_expr))) (more_exprs (Apply Images (more_exprs (Name (Own 0 (codes "f"))) (more_exprs (Literal (int (pos 1))) no_expr))) (more_exprs (Apply Get (more_exprs (Name (Own 0 (codes "f"))) (more_exprs (Literal (int (pos 2))) no_expr))) (more_exprs (Apply Images (more_exprs (Name (Own 0 (codes "f"))) (more_exprs (Literal (int (pos 9))) no_expr))) no_expr))))) no_stmt)); end_line = 1; procedures = ([]); modes = [] }; listing = codes "main:\n0 int 1\n1 int 2\n2 tuple 2\n3 int 1\n4 int 3\n5 tuple 2\n6 int 2\n7 int 5\n8 tuple 2\n9 set 3\n10 store f\n11 load f\n12 int 1\n13 get\n14 load f\n15 int 1\n16 images\n17 load f\n18 int 2\n19 get\n20 load f\n21 int 9\n22 images\n23 print 4\n24 stop\n"; input = codes ""; out = codes "* {2 3} 5 {}\n"; end = Done }

-- program p; (while true) (for x in [1..3], y in {5, 3..1} | x /= y) if x = 2 then continue; elseif y = 3 then quit; else print(x, y); end if; end for; quit; end while; end program;
abbrev pub loops : CodeRow
loops = record { program = record { name = codes "p"; vars = ([]); main = (more_stmts 1 (While (Literal (bool true)) (more_stmts 1 (For (more_iterators (Member Between (Own 0 (codes "x"))) (more_exprs (Literal (int (pos 1))) (more_exprs (Literal (int (pos 3))) no_expr)) (more_iterators (Member SetSteps (Own 0 (codes "y"))) (more_exprs (Literal (int (pos 5))) (more_exprs (Literal (int (pos 3))) (more_exprs (Literal (int (pos 1))) no_expr))) no_iterator)) (only_if (Apply NotEqual (more_exprs (Name (Own 0 (codes "x"))) (more_exprs (Name (Own 0 (codes "y"))) no_expr)))) (more_stmts 1 (If (Apply Equal (more_exprs (Name (Own 0 (codes "x"))) (more_exprs (Literal (int (pos 2))) no_expr))) (more_stmts 1 Continue no_stmt) (more_stmts 1 (If (Apply Equal (more_exprs (Name (Own 0 (codes "y"))) (more_exprs (Literal (int (pos 3))) no_expr))) (more_stmts 1 Quit no_stmt) (more_stmts 1 (Print (more_exprs (Name (Own 0 (codes "x"))) (more_exprs (Name (Own 0 (codes "y"))) no_expr))) no_stmt)) no_stmt)) no_stmt)) (more_stmts 1 Quit no_stmt))) no_stmt); end_line = 1; procedures = ([]); modes = [] }; listing = codes "main:\n0 true\n1 unless 37\n2 round\n3 int 1\n4 int 3\n5 begin range\n6 next 35\n7 store x\n8 int 5\n9 int 3\n10 int 1\n11 begin set step\n12 next 6\n13 store y\n14 load x\n15 load y\n16 /=\n17 unless 12\n18 load x\n19 int 2\n20 =\n21 unless 24\n22 jump 12\n23 jump 34\n24 load y\n25 int 3\n26 =\n27 unless 31\n28 leave 2\n29 jump 35\n30 jump 34\n31 load x\n32 load y\n33 print 2\n34 jump 12\n35 jump 37\n36 jump 0\n37 stop\n"; input = codes ""; out = codes ""; end = Done }

-- program p; f := {[1,[7]],[2,[8,9]]}; f(2)(4) := 5; (for y = f(x), z in y | z /= 8) print(x, z); end for; end program;
abbrev pub nested_places : CodeRow
nested_places = record { program = record { name = codes "p"; vars = ([]); main = (more_stmts 1 (Assign (record { variable = (Own 0 (codes "f")); selectors = no_selector }) (Apply SetOf (more_exprs (Apply TupleOf (more_exprs (Literal (int (pos 1))) (more_exprs (Apply TupleOf (more_exprs (Literal (int (pos 7))) no_expr)) no_expr))) (more_exprs (Apply TupleOf (more_exprs (Literal (int (pos 2))) (more_exprs (Apply TupleOf (more_exprs (Literal (int (pos 8))) (more_exprs (Literal (int (pos 9))) no_expr))) no_expr))) no_expr)))) (more_stmts 1 (Assign (record { variable = (Own 0 (codes "f")); selectors = (round_selector (Literal (int (pos 2))) (round_selector (Literal (int (pos 4))) no_selector)) }) (Literal (int (pos 5)))) (more_stmts 1 (For (more_iterators (Point (Own 0 (codes "y")) (Own 0 (codes "x"))) (more_exprs (Name (Own 0 (codes "f"))) no_expr) (more_iterators (Member Values (Own 0 (codes "z"))) (more_exprs (Name (Own 0 (codes "y"))) no_expr) no_iterator)) (only_if (Apply NotEqual (more_exprs (Name (Own 0 (codes "z"))) (more_exprs (Literal (int (pos 8))) no_expr)))) (more_stmts 1 (Print (more_exprs (Name (Own 0 (codes "x"))) (more_exprs (Name (Own 0 (codes "z"))) no_expr))) no_stmt)) no_stmt))); end_line = 1; procedures = ([]); modes = [] }; listing = codes "main:\n0 int 1\n1 int 7\n2 tuple 1\n3 tuple 2\n4 int 2\n5 int 8\n6 int 9\n7 tuple 2\n8 tuple 2\n9 set 2\n10 store f\n11 int 5\n12 int 2\n13 int 4\n14 put f () ()\n15 load f\n16 begin pairs\n17 next 32\n18 store x\n19 store y\n20 load y\n21 begin\n22 next 17\n23 store z\n24 load z\n25 int 8\n26 /=\n27 unless 22\n28 load x\n29 load z\n30 print 2\n31 jump 22\n32 stop\n"; input = codes ""; out = codes "1 7\n2 9\n2 *\n2 5\n"; end = Done }

-- program p; n := 1; inc(n); print(n); proc inc(rw x); x +:= 1; end proc; end program;
abbrev pub passed_in_and_out : CodeRow
passed_in_and_out = record { program = record { name = codes "p"; vars = ([]); main = (more_stmts 1 (Assign (record { variable = (Own 0 (codes "n")); selectors = no_selector }) (Literal (int (pos 1)))) (more_stmts 1 (Perform (Call 0 (rw_argument (Own 0 (codes "n")) no_argument))) (more_stmts 1 (Print (more_exprs (Name (Own 0 (codes "n"))) no_expr)) no_stmt))); end_line = 1; procedures = (record { name = codes "inc"; parameters = (record { passing = Rw; name = codes "x"; line = 1 } ∷ []); body = (more_stmts 1 (Update Add (record { variable = (Own 1 (codes "x")); selectors = no_selector }) (Literal (int (pos 1)))) no_stmt); end_line = 1 } ∷ []); modes = [] }; listing = codes "main:\n0 int 1\n1 store n\n2 load n\n3 call inc\n4 store n\n5 drop\n6 load n\n7 print 1\n8 stop\nproc inc:\n0 int 1\n1 + x\n2 om\n3 return\n"; input = codes ""; out = codes "2\n"; end = Done }

-- program p; print(forall x in {1,2} | x < 3, notexists [a,-] in {[1,2]}, y in [3..4] | a = y); end program;
abbrev pub quantifiers : CodeRow
quantifiers = record { program = record { name = codes "p"; vars = ([]); main = (more_stmts 1 (Print (more_exprs (Quantified Forall (more_iterators (Member Values (Own 0 (codes "x"))) (more_exprs (Apply SetOf (more_exprs (Literal (int (pos 1))) (more_exprs (Literal (int (pos 2))) no_expr))) no_expr) no_iterator) (Apply Below (more_exprs (Name (Own 0 (codes "x"))) (more_exprs (Literal (int (pos 3))) no_expr)))) (more_exprs (Quantified NotExists (more_iterators (Components Values (Some (Own 0 (codes "a")) ∷ None ∷ [])) (more_exprs (Apply SetOf (more_exprs (Apply TupleOf (more_exprs (Literal (int (pos 1))) (more_exprs (Literal (int (pos 2))) no_expr))) no_expr)) no_expr) (more_iterators (Member Between (Own 0 (codes "y"))) (more_exprs (Literal (int (pos 3))) (more_exprs (Literal (int (pos 4))) no_expr)) no_iterator)) (Apply Equal (more_exprs (Name (Own 0 (codes "a"))) (more_exprs (Name (Own 0 (codes "y"))) no_expr)))) no_expr))) no_stmt); end_line = 1; procedures = ([]); modes = [] }; listing = codes "main:\n0 int 1\n1 int 2\n2 set 2\n3 begin\n4 next 14\n5 store x\n6 load x\n7 int 3\n8 <\n9 not\n10 unless 4\n11 leave 1\n12 false\n13 jump 17\n14 om\n15 store x\n16 true\n17 int 1\n18 int 2\n19 tuple 2\n20 set 1\n21 begin\n22 next 38\n23 parts 2\n24 store a\n25 drop\n26 int 3\n27 int 4\n28 begin range\n29 next 22\n30 store y\n31 load a\n32 load y\n33 =\n34 unless 29\n35 leave 2\n36 false\n37 jump 43\n38 om\n39 store a\n40 om\n41 store y\n42 true\n43 print 2\n44 stop\n"; input = codes ""; out = codes "true true\n"; end = Done }

-- program p; q := []; (for i in [1..4]) if exists j in [1..4] | ok then if exists k in [1..#q] | q(k) = j or abs (q(k) - j) = i - k then fail; end if; q with:= j; else fail; end if; end for; print(q); end program;
abbrev pub queens : CodeRow
queens = record { program = record { name = codes "p"; vars = ([]); main = (more_stmts 1 (Assign (record { variable = (Own 0 (codes "q")); selectors = no_selector }) (Apply TupleOf no_expr)) (more_stmts 1 (For (more_iterators (Member Between (Own 0 (codes "i"))) (more_exprs (Literal (int (pos 1))) (more_exprs (Literal (int (pos 4))) no_expr)) no_iterator) no_condition (more_stmts 1 (If (Quantified Exists (more_iterators (Member Between (Own 0 (codes "j"))) (more_exprs (Literal (int (pos 1))) (more_exprs (Literal (int (pos 4))) no_expr)) no_iterator) Ok) (more_stmts 1 (If (Quantified Exists (more_iterators (Member Between (Own 0 (codes "k"))) (more_exprs (Literal (int (pos 1))) (more_exprs (Apply Size (more_exprs (Name (Own 0 (codes "q"))) no_expr)) no_expr)) no_iterator) (Connect Or (Apply Equal (more_exprs (Apply Get (more_exprs (Name (Own 0 (codes "q"))) (more_exprs (Name (Own 0 (codes "k"))) no_expr))) (more_exprs (Name (Own 0 (codes "j"))) no_expr))) (Apply Equal (more_exprs (Apply Abs (more_exprs (Apply Subtract (more_exprs (Apply Get (more_exprs (Name (Own 0 (codes "q"))) (more_exprs (Name (Own 0 (codes "k"))) no_expr))) (more_exprs (Name (Own 0 (codes "j"))) no_expr))) no_expr)) (more_exprs (Apply Subtract (more_exprs (Name (Own 0 (codes "i"))) (more_exprs (Name (Own 0 (codes "k"))) no_expr))) no_expr))))) (more_stmts 1 Fail no_stmt) no_stmt) (more_stmts 1 (Update With (record { variable = (Own 0 (codes "q")); selectors = no_selector }) (Name (Own 0 (codes "j")))) no_stmt)) (more_stmts 1 Fail no_stmt)) no_stmt)) (more_stmts 1 (Print (more_exprs (Name (Own 0 (codes "q"))) no_expr)) no_stmt))); end_line = 1; procedures = ([]); modes = [] }; listing = codes "main:\n0 tuple 0\n1 store q\n2 int 1\n3 int 4\n4 begin range\n5 next 59\n6 store i\n7 int 1\n8 int 4\n9 begin range\n10 next 17\n11 store j\n12 ok\n13 unless 10\n14 leave 1\n15 true\n16 jump 20\n17 om\n18 store j\n19 false\n20 unless 57\n21 int 1\n22 load q\n23 #\n24 begin range\n25 next 48\n26 store k\n27 load q\n28 load k\n29 get\n30 load j\n31 =\n32 or 44\n33 load q\n34 load k\n35 get\n36 load j\n37 -\n38 abs\n39 load i\n40 load k\n41 -\n42 =\n43 bool\n44 unless 25\n45 leave 1\n46 true\n47 jump 51\n48 om\n49 store k\n50 false\n51 unless 54\n52 fail\n53 jump 54\n54 load j\n55 with q\n56 jump 58\n57 fail\n58 jump 5\n59 load q\n60 print 1\n61 stop\n"; input = codes ""; out = codes "[2 4 1 3]\n"; end = Done }

-- program p; x := 1; print(x); end program;
abbrev pub one_assignment : CodeRow
one_assignment = record { program = record { name = codes "p"; vars = ([]); main = (more_stmts 1 (Assign (record { variable = (Own 0 (codes "x")); selectors = no_selector }) (Literal (int (pos 1)))) (more_stmts 1 (Print (more_exprs (Name (Own 0 (codes "x"))) no_expr)) no_stmt)); end_line = 1; procedures = ([]); modes = [] }; listing = codes "main:\n0 int 1\n1 store x\n2 load x\n3 print 1\n4 stop\n"; input = codes ""; out = codes "1\n"; end = Done }

-- program p; read(x, y, z); print(x, y, z, eof); end program;
abbrev pub reading : CodeRow
reading = record { program = record { name = codes "p"; vars = ([]); main = (more_stmts 1 (Read ((Own 0 (codes "x")) ∷ (Own 0 (codes "y")) ∷ (Own 0 (codes "z")) ∷ [])) (more_stmts 1 (Print (more_exprs (Name (Own 0 (codes "x"))) (more_exprs (Name (Own 0 (codes "y"))) (more_exprs (Name (Own 0 (codes "z"))) (more_exprs Eof no_expr))))) no_stmt)); end_line = 1; procedures = ([]); modes = [] }; listing = codes "main:\n0 read\n1 store x\n2 read\n3 store y\n4 read\n5 store z\n6 load x\n7 load y\n8 load z\n9 eof\n10 print 4\n11 stop\n"; input = codes "{1 [2 'a']} 7"; out = codes "{1 [2 'a']} 7 * true\n"; end = Done }

-- program q;
-- proc p(a); b := a; b with:= 1; return b; end proc;
-- end program;
abbrev pub two_bodies : CodeRow
two_bodies = record { program = record { name = codes "q"; vars = ([]); main = no_stmt; end_line = 3; procedures = (record { name = codes "p"; parameters = (record { passing = Rd; name = codes "a"; line = 1 } ∷ []); body = (more_stmts 2 (Assign (record { variable = (Own 1 (codes "b")); selectors = no_selector }) (Name (Own 1 (codes "a")))) (more_stmts 2 (Update With (record { variable = (Own 1 (codes "b")); selectors = no_selector }) (Literal (int (pos 1)))) (more_stmts 2 (Return (Name (Own 1 (codes "b")))) no_stmt))); end_line = 2 } ∷ []); modes = [] }; listing = codes "main:\n0 stop\nproc p:\n0 load a\n1 store b\n2 int 1\n3 with b\n4 load b\n5 return\n6 om\n7 return\n"; input = codes ""; out = codes ""; end = Done }

-- program p; print(pow {1,2}, 2 npow {1,2,3}); end program;
abbrev pub subsets : CodeRow
subsets = record { program = record { name = codes "p"; vars = ([]); main = (more_stmts 1 (Print (more_exprs (Apply Pow (more_exprs (Apply SetOf (more_exprs (Literal (int (pos 1))) (more_exprs (Literal (int (pos 2))) no_expr))) no_expr)) (more_exprs (Apply Npow (more_exprs (Literal (int (pos 2))) (more_exprs (Apply SetOf (more_exprs (Literal (int (pos 1))) (more_exprs (Literal (int (pos 2))) (more_exprs (Literal (int (pos 3))) no_expr)))) no_expr))) no_expr))) no_stmt); end_line = 1; procedures = ([]); modes = [] }; listing = codes "main:\n0 int 1\n1 int 2\n2 set 2\n3 pow\n4 int 2\n5 int 1\n6 int 2\n7 int 3\n8 set 3\n9 npow\n10 print 2\n11 stop\n"; input = codes ""; out = codes "{{} {1} {1 2} {2}} {{1 2} {1 3} {2 3}}\n"; end = Done }

-- program p; t := [1,om,2]; [x, -, y] := t; z fromb t; n frome t; print(x, y, z, n, t); end program;
abbrev pub taken_apart : CodeRow
taken_apart = record { program = record { name = codes "p"; vars = ([]); main = (more_stmts 1 (Assign (record { variable = (Own 0 (codes "t")); selectors = no_selector }) (Apply TupleOf (more_exprs (Literal (int (pos 1))) (more_exprs Undefined (more_exprs (Literal (int (pos 2))) no_expr))))) (more_stmts 1 (AssignParts (Some (Own 0 (codes "x")) ∷ None ∷ Some (Own 0 (codes "y")) ∷ []) (Name (Own 0 (codes "t")))) (more_stmts 1 (TakeFrom TakeFirst (Own 0 (codes "z")) (record { variable = (Own 0 (codes "t")); selectors = no_selector })) (more_stmts 1 (TakeFrom TakeLast (Own 0 (codes "n")) (record { variable = (Own 0 (codes "t")); selectors = no_selector })) (more_stmts 1 (Print (more_exprs (Name (Own 0 (codes "x"))) (more_exprs (Name (Own 0 (codes "y"))) (more_exprs (Name (Own 0 (codes "z"))) (more_exprs (Name (Own 0 (codes "n"))) (more_exprs (Name (Own 0 (codes "t"))) no_expr)))))) no_stmt))))); end_line = 1; procedures = ([]); modes = [] }; listing = codes "main:\n0 int 1\n1 om\n2 int 2\n3 tuple 3\n4 store t\n5 load t\n6 parts 3\n7 store x\n8 drop\n9 store y\n10 fromb t\n11 store z\n12 frome t\n13 store n\n14 load x\n15 load y\n16 load z\n17 load n\n18 load t\n19 print 5\n20 stop\n"; input = codes ""; out = codes "1 2 1 2 []\n"; end = Done }

-- program q; x := p(); print(x); if x = 1 then fail; end if; proc p(); if ok then return 1; else return 2; end if; end proc; end program;
abbrev pub taken_back : CodeRow
taken_back = record { program = record { name = codes "q"; vars = ([]); main = (more_stmts 1 (Assign (record { variable = (Own 0 (codes "x")); selectors = no_selector }) (Call 0 no_argument)) (more_stmts 1 (Print (more_exprs (Name (Own 0 (codes "x"))) no_expr)) (more_stmts 1 (If (Apply Equal (more_exprs (Name (Own 0 (codes "x"))) (more_exprs (Literal (int (pos 1))) no_expr))) (more_stmts 1 Fail no_stmt) no_stmt) no_stmt))); end_line = 1; procedures = (record { name = codes "p"; parameters = ([]); body = (more_stmts 1 (If Ok (more_stmts 1 (Return (Literal (int (pos 1)))) no_stmt) (more_stmts 1 (Return (Literal (int (pos 2)))) no_stmt)) no_stmt); end_line = 1 } ∷ []); modes = [] }; listing = codes "main:\n0 call p\n1 store x\n2 load x\n3 print 1\n4 load x\n5 int 1\n6 =\n7 unless 10\n8 fail\n9 jump 10\n10 stop\nproc p:\n0 ok\n1 unless 5\n2 int 1\n3 return\n4 jump 7\n5 int 2\n6 return\n7 om\n8 return\n"; input = codes ""; out = codes "1\n2\n"; end = Done }

-- program p; print(170141183460469231731687303715884105727 + 1); end program;
abbrev pub too_wide : CodeRow
too_wide = record { program = record { name = codes "p"; vars = ([]); main = (more_stmts 1 (Print (more_exprs (Apply Add (more_exprs (Literal (int (pos 170141183460469231731687303715884105727))) (more_exprs (Literal (int (pos 1))) no_expr))) no_expr)) no_stmt); end_line = 1; procedures = ([]); modes = [] }; listing = codes "main:\n0 int 170141183460469231731687303715884105727\n1 int 1\n2 +\n3 print 1\n4 stop\n"; input = codes ""; out = codes ""; end = (Stopped Wide 1) }

-- program q; p(); proc p(); s := 1; print(s); end proc; end program;
abbrev pub undeclared_own : CodeRow
undeclared_own = record { program = record { name = codes "q"; vars = ([]); main = (more_stmts 1 (Perform (Call 0 no_argument)) no_stmt); end_line = 1; procedures = (record { name = codes "p"; parameters = ([]); body = (more_stmts 1 (Assign (record { variable = (Own 1 (codes "s")); selectors = no_selector }) (Literal (int (pos 1)))) (more_stmts 1 (Print (more_exprs (Name (Own 1 (codes "s"))) no_expr)) no_stmt)); end_line = 1 } ∷ []); modes = [] }; listing = codes "main:\n0 call p\n1 drop\n2 stop\nproc p:\n0 int 1\n1 store s\n2 load s\n3 print 1\n4 om\n5 return\n"; input = codes ""; out = codes "1\n"; end = Done }

-- program p; f := {}; f{1} := {2}; f(2) := [1]; f(2)(3) +:= om; x from f{1}; if ok then stop; else pass; end if; y := newat; print('it''s', f(1, 2), f(2)(1..2), f(2)(1..), [z in f | z /= y]); end program;
abbrev pub updates : CodeRow
updates = record { program = record { name = codes "p"; vars = ([]); main = (more_stmts 1 (Assign (record { variable = (Own 0 (codes "f")); selectors = no_selector }) (Apply SetOf no_expr)) (more_stmts 1 (Assign (record { variable = (Own 0 (codes "f")); selectors = (brace_selector (Literal (int (pos 1))) no_selector) }) (Apply SetOf (more_exprs (Literal (int (pos 2))) no_expr))) (more_stmts 1 (Assign (record { variable = (Own 0 (codes "f")); selectors = (round_selector (Literal (int (pos 2))) no_selector) }) (Apply TupleOf (more_exprs (Literal (int (pos 1))) no_expr))) (more_stmts 1 (Update Add (record { variable = (Own 0 (codes "f")); selectors = (round_selector (Literal (int (pos 2))) (round_selector (Literal (int (pos 3))) no_selector)) }) Undefined) (more_stmts 1 (TakeFrom TakeLeast (Own 0 (codes "x")) (record { variable = (Own 0 (codes "f")); selectors = (brace_selector (Literal (int (pos 1))) no_selector) })) (more_stmts 1 (If Ok (more_stmts 1 Stop no_stmt) (more_stmts 1 Pass no_stmt)) (more_stmts 1 (Assign (record { variable = (Own 0 (codes "y")); selectors = no_selector }) Newat) (more_stmts 1 (Print (more_exprs (Literal (text (codes "it's"))) (more_exprs (Apply Get (more_exprs (Name (Own 0 (codes "f"))) (more_exprs (Apply TupleOf (more_exprs (Literal (int (pos 1))) (more_exprs (Literal (int (pos 2))) no_expr))) no_expr))) (more_exprs (Apply Slice (more_exprs (Apply Get (more_exprs (Name (Own 0 (codes "f"))) (more_exprs (Literal (int (pos 2))) no_expr))) (more_exprs (Literal (int (pos 1))) (more_exprs (Literal (int (pos 2))) no_expr)))) (more_exprs (Apply Tail (more_exprs (Apply Get (more_exprs (Name (Own 0 (codes "f"))) (more_exprs (Literal (int (pos 2))) no_expr))) (more_exprs (Literal (int (pos 1))) no_expr))) (more_exprs (Selection OfTuple (Member Values (Bound 1 (codes "z"))) (more_exprs (Name (Own 0 (codes "f"))) no_expr) (Apply NotEqual (more_exprs (Name (Bound 1 (codes "z"))) (more_exprs (Name (Own 0 (codes "y"))) no_expr)))) no_expr)))))) no_stmt)))))))); end_line = 1; procedures = ([]); modes = [] }; listing = codes "main:\n0 set 0\n1 store f\n2 int 2\n3 set 1\n4 int 1\n5 put f {}\n6 int 1\n7 tuple 1\n8 int 2\n9 put f ()\n10 om\n11 int 2\n12 int 3\n13 + f () ()\n14 int 1\n15 from f {}\n16 store x\n17 ok\n18 unless 21\n19 stop\n20 jump 21\n21 newat\n22 store y\n23 str 'it''s'\n24 load f\n25 int 1\n26 int 2\n27 tuple 2\n28 get\n29 load f\n30 int 2\n31 get\n32 int 1\n33 int 2\n34 slice\n35 load f\n36 int 2\n37 get\n38 int 1\n39 tail\n40 newtuple\n41 load f\n42 begin\n43 next 54\n44 dup\n45 store z.1\n46 load z.1\n47 load y\n48 /=\n49 unless 52\n50 add 1\n51 jump 43\n52 drop\n53 jump 43\n54 print 5\n55 stop\n"; input = codes ""; out = codes ""; end = (Stopped Om 1) }

abbrev pub worked_codes : List CodeRow
worked_codes = calls ∷ counting ∷ emptied_set ∷ enumeration_or_former ∷ fail_alone ∷ folds ∷ former ∷ images_of_a_map ∷ loops ∷ nested_places ∷ passed_in_and_out ∷ quantifiers ∷ queens ∷ one_assignment ∷ reading ∷ two_bodies ∷ subsets ∷ taken_apart ∷ taken_back ∷ too_wide ∷ undeclared_own ∷ updates ∷ []
