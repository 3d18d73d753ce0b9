-- Worked rows of loops and iterators.
use Rattle.std.specs.Prelude.{List, [], ◌∷◌, ◌++◌, codes, Some, None}
use Rattle.setl_operators_table.specs.declared.Operator.TheVariants.{With, Less, Add, Divide, Equal, Below, Even, Odd, TupleRange}
use Rattle.setl_program.specs.declared.kinds.Source.TheVariants.{Values, Between, SetSteps, TupleSteps}
use Rattle.setl_program.specs.Program.{Member, Components, Point, Undefined, Name, Newat, no_iterator, more_iterators, no_condition, only_if, If, For, While, Quit, Continue, Pass, no_stmt}
use Rattle.setl_model_runs.specs.Events.{Om, Kind, Zero, Stopped, Spent}
use Rattle.setl_program.specs.Source.{f, g, n, s, t, x, y, yes, no, number, quoted, exprs, one, two, set_of, tuple_of, enumeration, row_of, over, between, assign, combine, print, on_line, at, alone, lines_from, just}
use Rattle.setl_model.specs.Table.{Row, does, ends, all_end}

-- what an iterator runs over
abbrev pub source_rows : List Row
source_rows =
    -- (for x in 'ab') print(x); end for;
    -- (for x in {3}) print(x); end for; (for x in '') print(x); end for;
    does 3 (just (at 2 (For (over x (quoted (codes "ab"))) no_condition (alone 2 (print (Name x ∷ [])))) (at 3 (For
    (over x (enumeration (3 ∷ []))) no_condition (alone 3 (print (Name x ∷ [])))) (at 3 (For (over x (quoted
    (codes ""))) no_condition (alone 3 (print (Name x ∷ [])))) no_stmt)))) (codes "a\nb\n3\n")
    -- (for x in [1, om, 2]) print(x); end for;
    -- (for x in {'a', 3, true}) print(x); end for;
    ∷ does 6 (just (lines_from 2 (For (over x (tuple_of (number 1 ∷ Undefined ∷ number 2 ∷ []))) no_condition (alone 2
    (print (Name x ∷ []))) ∷ For (over x (set_of (quoted (codes "a") ∷ number 3 ∷ yes ∷ []))) no_condition
    (alone 3 (print (Name x ∷ []))) ∷ []))) (codes "1\n*\n2\ntrue\n3\na\n")
    -- a range written directly is never made, so its steps alone take turns:
    -- (for x in {5, 3..1}) print(x); end for;
    -- (for x in [5, 3..1]) print(x); end for; (for x in {1..2}) print(x); end for; (for x in [2..1]) print(x); end
    --   for;
    ∷ does 8 (just (at 2 (For (more_iterators (Member SetSteps x) (exprs (number 5 ∷ number 3 ∷ number 1
    ∷ [])) no_iterator) no_condition (alone 2 (print (Name x ∷ [])))) (at 3 (For (more_iterators (Member TupleSteps x) (exprs (number 5 ∷ number 3 ∷ number 1 ∷ [])) no_iterator) no_condition (alone 3 (print
    (Name x ∷ [])))) (at 3 (For (between x (number 1) (number 2)) no_condition (alone 3 (print (Name x ∷ []))))
    (at 3 (For (between x (number 2) (number 1)) no_condition (alone 3 (print (Name x ∷ [])))) no_stmt)))))
    (codes "1\n3\n5\n5\n3\n1\n1\n2\n")
    -- (for x in ([1..3])) print(x); end for;
    -- with 2 turns
    ∷ ends Spent 2 (just (alone 2 (For (between x (number 1) (number 3)) no_condition (alone 2 (print (Name x ∷ []))))))
    (codes "1\n2\n")
    -- t := [1..3]; (for x in t) print(x); end for;
    ∷ does 6 (just (on_line 2 (assign t (two TupleRange (number 1) (number 3)) ∷ For (over x (Name t)) no_condition
    (alone 2 (print (Name x ∷ []))) ∷ []))) (codes "1\n2\n3\n")
    -- t := [1..3]; (for x in t) print(x); end for;
    -- with 5 turns
    ∷ ends Spent 5 (just (on_line 2 (assign t (two TupleRange (number 1) (number 3)) ∷ For (over x
    (Name t)) no_condition (alone 2 (print (Name x ∷ []))) ∷ []))) (codes "1\n2\n")
    -- kind 2:
    -- (for x in 5) end for;
    -- (for x in true) end for;
    -- (for x in newat) end for;
    -- (for x in ['a'..2]) end for;
    -- (for x in [1, 1..'a']) end for;
    ∷ all_end (Stopped Kind 2) (
    just (alone 2 (For (over x (number 5)) no_condition no_stmt))
    ∷ just (alone 2 (For (over x yes) no_condition no_stmt))
    ∷ just (alone 2 (For (over x Newat) no_condition no_stmt))
    ∷ just (alone 2 (For (between x (quoted (codes "a")) (number 2)) no_condition no_stmt))
    ∷ just (alone 2 (For (more_iterators (Member TupleSteps x) (exprs (number 1 ∷ number 1 ∷ quoted (codes "a")
    ∷ [])) no_iterator) no_condition no_stmt))
    ∷ [])
    -- om 2:
    -- (for x in om) end for;
    -- (for x in [om..2]) end for;
    -- (for x in {1, om..'a'}) end for;
    ++ all_end (Stopped Om 2) (
    just (alone 2 (For (over x Undefined) no_condition no_stmt))
    ∷ just (alone 2 (For (between x Undefined (number 2)) no_condition no_stmt))
    ∷ just (alone 2 (For (more_iterators (Member SetSteps x) (exprs (number 1 ∷ Undefined ∷ quoted (codes "a")
    ∷ [])) no_iterator) no_condition no_stmt))
    ∷ [])
    -- zero 2:
    -- (for x in [1, 1..3]) end for;
    -- (for x in {2, 2..1}) end for;
    ++ all_end (Stopped Zero 2) (
    just (alone 2 (For (more_iterators (Member TupleSteps x) (exprs (number 1 ∷ number 1 ∷ number 3
    ∷ [])) no_iterator) no_condition no_stmt))
    ∷ just (alone 2 (For (more_iterators (Member SetSteps x) (exprs (number 2 ∷ number 2 ∷ number 1
    ∷ [])) no_iterator) no_condition no_stmt))
    ∷ [])

-- members that are taken apart, and points of maps
abbrev pub pattern_rows : List Row
pattern_rows =
    -- (for [x, y] in {[1, 2], [3]}) print(x, y); end for;
    does 2 (just (alone 2 (For (more_iterators (Components Values (Some x ∷ Some y ∷ [])) (exprs (set_of (row_of (1
    ∷ 2 ∷ []) ∷ row_of (3 ∷ []) ∷ []) ∷ [])) no_iterator) no_condition (alone 2 (print (Name x ∷ Name y ∷ []))))))
    (codes "1 2\n3 *\n")
    -- (for [-, x] in [[1, 2, 3], []]) print(x); end for;
    ∷ does 2 (just (alone 2 (For (more_iterators (Components Values (None ∷ Some x ∷ [])) (exprs (tuple_of (row_of (1
    ∷ 2 ∷ 3 ∷ []) ∷ tuple_of [] ∷ []) ∷ [])) no_iterator) no_condition (alone 2 (print (Name x ∷ []))))))
    (codes "2\n*\n")
    -- (for [x] in {5}) end for;
    -- with 0 turns
    ∷ ends Spent 0 (just (alone 2 (For (more_iterators (Components Values (Some x ∷ [])) (exprs (enumeration (5 ∷ [])
    ∷ [])) no_iterator) no_condition no_stmt))) []
    -- (for [x] in {5}) end for;
    ∷ ends (Stopped Kind 2) 1 (just (alone 2 (For (more_iterators (Components Values (Some x ∷ [])) (exprs (enumeration
    (5 ∷ []) ∷ [])) no_iterator) no_condition no_stmt))) []
    -- (for [x] in [[1], om, [2]])
    -- print(x); end for;
    ∷ ends (Stopped Om 2) 9 (just (alone 2 (For (more_iterators (Components Values (Some x ∷ [])) (exprs (tuple_of
    (row_of (1 ∷ []) ∷ Undefined ∷ row_of (2 ∷ []) ∷ []) ∷ [])) no_iterator) no_condition (alone 3 (print (Name x
    ∷ [])))))) (codes "1\n")
    -- f := {[1, 2], [1, 3], [2, 5]}; (for y = f(x)) print(x, y); end for;
    ∷ does 2 (just (on_line 2 (assign f (set_of (row_of (1 ∷ 2 ∷ []) ∷ row_of (1 ∷ 3 ∷ []) ∷ row_of (2 ∷ 5 ∷ []) ∷ []))
    ∷ For (more_iterators (Point y x) (exprs (Name f ∷ [])) no_iterator) no_condition (alone 2 (print
    (Name x ∷ Name y ∷ []))) ∷ []))) (codes "1 *\n2 5\n")
    -- f := [7, om, 9]; (for y = f(x)) print(x, y); end for;
    -- g := 'ab'; (for y = g(x)) print(x, y); end for;
    ∷ does 5 (just (at 2 (assign f (tuple_of (number 7 ∷ Undefined ∷ number 9 ∷ []))) (at 2 (For (more_iterators (Point y x) (exprs (Name f ∷ [])) no_iterator) no_condition (alone 2 (print (Name x ∷ Name y ∷ []))))
    (at 3 (assign g (quoted (codes "ab"))) (at 3 (For (more_iterators (Point y x) (exprs (Name g
    ∷ [])) no_iterator) no_condition (alone 3 (print (Name x ∷ Name y ∷ [])))) no_stmt)))))
    (codes "1 7\n2 *\n3 9\n1 a\n2 b\n")
    -- the map is read once:
    -- f := {[1, 2], [2, 3]}; (for y = f(x)) f := {}; print(x, y); end for;
    ∷ does 2 (just (on_line 2 (assign f (set_of (row_of (1 ∷ 2 ∷ []) ∷ row_of (2 ∷ 3 ∷ []) ∷ [])) ∷ For (more_iterators (Point y x) (exprs (Name f ∷ [])) no_iterator) no_condition (on_line 2 (assign f (set_of []) ∷ print
    (Name x ∷ Name y ∷ []) ∷ [])) ∷ []))) (codes "1 2\n2 3\n")
    -- kind 2:
    -- f := {1}; (for y = f(x)) end for;
    -- f := 5; (for y = f(x)) end for;
    ∷ all_end (Stopped Kind 2) (
    just (on_line 2 (assign f (enumeration (1 ∷ [])) ∷ For (more_iterators (Point y x) (exprs (Name f
    ∷ [])) no_iterator) no_condition no_stmt ∷ []))
    ∷ just (on_line 2 (assign f (number 5) ∷ For (more_iterators (Point y x) (exprs (Name f
    ∷ [])) no_iterator) no_condition no_stmt ∷ []))
    ∷ [])
    -- om 2:
    -- f := om; (for y = f(x)) end for;
    ++ all_end (Stopped Om 2) (
    just (on_line 2 (assign f Undefined ∷ For (more_iterators (Point y x) (exprs (Name f
    ∷ [])) no_iterator) no_condition no_stmt ∷ []))
    ∷ [])

-- loops store ordinary variables, which keep their last values
abbrev pub loop_rows : List Row
loop_rows =
    -- the source is read once:
    -- s := {1, 2, 3}; n := 0; (for x in s) s less:= x; n +:= 1; end for; print(s, n, x);
    does 3 (just (on_line 2 (assign s (enumeration (1 ∷ 2 ∷ 3 ∷ [])) ∷ assign n (number 0) ∷ For (over x
    (Name s)) no_condition (on_line 2 (combine Less s (Name x) ∷ combine Add n (number 1) ∷ [])) ∷ print (Name s
    ∷ Name n ∷ Name x ∷ []) ∷ []))) (codes "{} 3 3\n")
    -- x := 9; (for x in {}) end for; print(x);
    -- (for x in [1, om, 2] | true) pass; quit; end for; print(x); t := [3]; (for x in t) t with:= 1; end for; print(x,
    --   t);
    ∷ does 2 (just (at 2 (assign x (number 9)) (at 2 (For (over x (set_of [])) no_condition no_stmt) (at 2 (print
    (Name x ∷ [])) (at 3 (For (over x (tuple_of (number 1 ∷ Undefined ∷ number 2 ∷ []))) (only_if yes) (on_line 3
    (Pass ∷ Quit ∷ []))) (at 3 (print (Name x ∷ [])) (at 3 (assign t (row_of (3 ∷ []))) (at 3 (For (over x
    (Name t)) no_condition (alone 3 (combine With t (number 1)))) (at 3 (print (Name x ∷ Name t
    ∷ [])) no_stmt))))))))) (codes "9\n1\n3 [3 1]\n")
    -- (for x in [1..4] | even x) print(x); end for;
    ∷ does 4 (just (alone 2 (For (between x (number 1) (number 4)) (only_if (one Even (Name x))) (alone 2 (print (Name x
    ∷ [])))))) (codes "2\n4\n")
    -- the inner one starts anew at each step of the outer one:
    -- (for x in [1, 2], y in [1..x]) print(x, y); end for;
    ∷ does 5 (just (alone 2 (For (more_iterators (Member Values x) (exprs (row_of (1 ∷ 2 ∷ []) ∷ [])) (more_iterators (Member Between y) (exprs (number 1 ∷ Name x ∷ [])) no_iterator)) no_condition (alone 2 (print (Name x
    ∷ Name y ∷ [])))))) (codes "1 1\n2 1\n2 2\n")
    -- (for x in [1, 2], y in [1..x]) print(x, y); end for;
    -- with 4 turns
    ∷ ends Spent 4 (just (alone 2 (For (more_iterators (Member Values x) (exprs (row_of (1 ∷ 2 ∷ []) ∷ []))
    (more_iterators (Member Between y) (exprs (number 1 ∷ Name x ∷ [])) no_iterator)) no_condition (alone 2 (print
    (Name x ∷ Name y ∷ [])))))) (codes "1 1\n2 1\n")
    -- (for x in [1..5]) print(x); end for;
    -- with 3 turns
    ∷ ends Spent 3 (just (alone 2 (For (between x (number 1) (number 5)) no_condition (alone 2 (print (Name x ∷ []))))))
    (codes "1\n2\n3\n")
    -- (for x in [1..5]) print(x); end for;
    ∷ does 5 (just (alone 2 (For (between x (number 1) (number 5)) no_condition (alone 2 (print (Name x ∷ []))))))
    (codes "1\n2\n3\n4\n5\n")
    -- kind 2:
    -- (for x in [1] | x) end for;
    -- (for x in [1]
    -- | 'a')
    -- end for;
    ∷ all_end (Stopped Kind 2) (
    just (alone 2 (For (over x (row_of (1 ∷ []))) (only_if (Name x)) no_stmt))
    ∷ just (alone 2 (For (over x (row_of (1 ∷ []))) (only_if (quoted (codes "a"))) no_stmt))
    ∷ [])
    -- om 2:
    -- (for x in [1] | om) end for;
    ++ all_end (Stopped Om 2) (
    just (alone 2 (For (over x (row_of (1 ∷ []))) (only_if Undefined) no_stmt))
    ∷ [])
    -- a stop in the body has the line of the statement there:
    -- (for x in [1])
    -- print(x + 'a'); end for;
    ++ ends (Stopped Kind 3) 9 (just (alone 2 (For (over x (row_of (1 ∷ []))) no_condition (alone 3 (print (two Add
    (Name x) (quoted (codes "a")) ∷ [])))))) []
    ∷ []

-- `quit` leaves the innermost loop, `continue` goes to its next step or test
abbrev pub jump_rows : List Row
jump_rows =
    -- (for x in [1..3]) (for y in [1..3]) if y = 2 then quit; end if; print(x, y); end for; end for;
    -- with 7 turns
    ends Spent 7 (just (alone 2 (For (between x (number 1) (number 3)) no_condition (alone 2 (For (between y
    (number 1) (number 3)) no_condition (on_line 2 (If (two Equal (Name y) (number 2)) (alone 2 Quit) no_stmt
    ∷ print (Name x ∷ Name y ∷ []) ∷ []))))))) (codes "1 1\n2 1\n")
    -- (for x in [1..3]) (for y in [1..3]) if y = 2 then quit; end if; print(x, y); end for; end for;
    ∷ does 9 (just (alone 2 (For (between x (number 1) (number 3)) no_condition (alone 2 (For (between y (number 1)
    (number 3)) no_condition (on_line 2 (If (two Equal (Name y) (number 2)) (alone 2 Quit) no_stmt ∷ print (Name x
    ∷ Name y ∷ []) ∷ []))))))) (codes "1 1\n2 1\n3 1\n")
    -- (for x in [1..3]) if x = 2 then continue; end if; print(x); end for;
    ∷ does 3 (just (alone 2 (For (between x (number 1) (number 3)) no_condition (on_line 2 (If (two Equal (Name x)
    (number 2)) (alone 2 Continue) no_stmt ∷ print (Name x ∷ []) ∷ []))))) (codes "1\n3\n")
    -- `quit` leaves all iterators of the loop:
    -- (for x in [1, 2], y in [1, 2]) print(x, y); quit; end for;
    ∷ does 2 (just (alone 2 (For (more_iterators (Member Values x) (exprs (row_of (1 ∷ 2 ∷ []) ∷ [])) (more_iterators (Member Values y) (exprs (row_of (1 ∷ 2 ∷ []) ∷ [])) no_iterator)) no_condition (on_line 2 (print (Name x
    ∷ Name y ∷ []) ∷ Quit ∷ []))))) (codes "1 1\n")
    -- `continue` goes to the next step of the last iterator:
    -- (for x in [1, 2], y in [1, 2]) if y = 1 then continue; end if; print(x, y); end for;
    ∷ does 6 (just (alone 2 (For (more_iterators (Member Values x) (exprs (row_of (1 ∷ 2 ∷ []) ∷ [])) (more_iterators (Member Values y) (exprs (row_of (1 ∷ 2 ∷ []) ∷ [])) no_iterator)) no_condition (on_line 2 (If (two Equal
    (Name y) (number 1)) (alone 2 Continue) no_stmt ∷ print (Name x ∷ Name y ∷ []) ∷ []))))) (codes "1 2\n2 2\n")
    -- n := 0; (while n < 4) n +:= 1; if odd n then continue; end if; print(n); end while;
    ∷ does 4 (just (on_line 2 (assign n (number 0) ∷ While (two Below (Name n) (number 4)) (on_line 2 (combine Add n
    (number 1) ∷ If (one Odd (Name n)) (alone 2 Continue) no_stmt ∷ print (Name n ∷ []) ∷ [])) ∷ [])))
    (codes "2\n4\n")
    -- n := 0; (while true) n +:= 1; if n = 3 then quit; end if; print(n); end while; print(n);
    ∷ does 3 (just (on_line 2 (assign n (number 0) ∷ While yes (on_line 2 (combine Add n (number 1) ∷ If (two Equal
    (Name n) (number 3)) (alone 2 Quit) no_stmt ∷ print (Name n ∷ []) ∷ [])) ∷ print (Name n ∷ []) ∷ [])))
    (codes "1\n2\n3\n")
    -- n := 0; (while n < 2) n +:= 1; (for x in [1..9]) if x = n then quit; end if; print(n, x); end for; end while;
    ∷ does 5 (just (on_line 2 (assign n (number 0) ∷ While (two Below (Name n) (number 2)) (on_line 2 (combine Add n
    (number 1) ∷ For (between x (number 1) (number 9)) no_condition (on_line 2 (If (two Equal (Name x) (Name n))
    (alone 2 Quit) no_stmt ∷ print (Name n ∷ Name x ∷ []) ∷ [])) ∷ [])) ∷ []))) (codes "2 1\n")
    ∷ []

-- each round of `while` takes a turn, its last test none
abbrev pub while_rows : List Row
while_rows =
    -- n := 0; (while n < 2) n +:= 1; end while; print(n);
    does 2 (just (on_line 2 (assign n (number 0) ∷ While (two Below (Name n) (number 2)) (alone 2 (combine Add n
    (number 1))) ∷ print (Name n ∷ []) ∷ []))) (codes "2\n")
    -- n := 0; (while n < 2) n +:= 1; print(n); end while;
    -- with 1 turns
    ∷ ends Spent 1 (just (on_line 2 (assign n (number 0) ∷ While (two Below (Name n) (number 2)) (on_line 2
    (combine Add n (number 1) ∷ print (Name n ∷ []) ∷ [])) ∷ []))) (codes "1\n")
    -- (while false) end while; print(1);
    ∷ does 0 (just (on_line 2 (While no no_stmt ∷ print (number 1 ∷ []) ∷ []))) (codes "1\n")
    -- kind 2:
    -- (while 1) end while;
    -- (while 'a')
    -- end while;
    ∷ all_end (Stopped Kind 2) (
    just (alone 2 (While (number 1) no_stmt))
    ∷ just (alone 2 (While (quoted (codes "a")) no_stmt))
    ∷ [])
    -- om 2:
    -- (while om) end while;
    ++ all_end (Stopped Om 2) (
    just (alone 2 (While Undefined no_stmt))
    ∷ [])

-- a condition of `if` and of `elseif` has the line of the `if`
abbrev pub choice_rows : List Row
choice_rows =
    -- x := 2; if x = 1 then print(1); elseif x = 2 then print(2); else print(3); end if;
    -- if x = 1 then print(1); end if; if false then elseif false then else print(4); end if;
    does 0 (just (at 2 (assign x (number 2)) (at 2 (If (two Equal (Name x) (number 1)) (alone 2 (print (number 1
    ∷ []))) (alone 2 (If (two Equal (Name x) (number 2)) (alone 2 (print (number 2 ∷ []))) (alone 2 (print
    (number 3 ∷ [])))))) (at 3 (If (two Equal (Name x) (number 1)) (alone 3 (print (number 1 ∷ []))) no_stmt)
    (at 3 (If no no_stmt (alone 3 (If no no_stmt (alone 3 (print (number 4 ∷ [])))))) no_stmt)))))
    (codes "2\n4\n")
    -- kind 2:
    -- if 1 then end if;
    -- if false then pass;
    -- elseif 1 then pass;
    -- end if;
    -- if false then pass;
    -- elseif false
    -- then pass; elseif
    -- 'a' then end if;
    ∷ all_end (Stopped Kind 2) (
    just (alone 2 (If (number 1) no_stmt no_stmt))
    ∷ just (alone 2 (If no (alone 2 Pass) (alone 2 (If (number 1) (alone 3 Pass) no_stmt))))
    ∷ just (alone 2 (If no (alone 2 Pass) (alone 2 (If no (alone 4 Pass) (alone 2 (If (quoted
    (codes "a")) no_stmt no_stmt))))))
    ∷ [])
    -- om 2:
    -- if om then end if;
    -- if false then
    -- elseif om then end if;
    ++ all_end (Stopped Om 2) (
    just (alone 2 (If Undefined no_stmt no_stmt))
    ∷ just (alone 2 (If no no_stmt (alone 2 (If Undefined no_stmt no_stmt))))
    ∷ [])
    -- if true
    -- then print(1 div 0);
    -- end if;
    ++ ends (Stopped Zero 3) 0 (just (alone 2 (If yes (alone 3 (print (two Divide (number 1) (number 0)
    ∷ []))) no_stmt))) []
    ∷ []
