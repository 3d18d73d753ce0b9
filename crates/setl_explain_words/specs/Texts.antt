-- What the page of errors says of each fault of a source and of each stop. Made by .ci/explanations.
use Rattle.std.specs.Prelude.{ℕ, ◌==◌, if◌then◌else◌, List, [], ◌∷◌, codes}
use Rattle.setl_explain_words.specs.Lines.{text_of}
use Rattle.setl_explain_words.specs.declared.fault.SourceFault.{SourceFault}
use Rattle.setl_explain_words.specs.declared.fault.SourceFault.TheVariants as fault
use Rattle.setl_explain_words.specs.declared.stop.Stop.{Stop}
use Rattle.setl_explain_words.specs.declared.stop.Stop.TheVariants as stop

-- why a source without a tree is refused, and what to write instead
abbrev pub fault_text : SourceFault → List ℕ
fault_text fault.TooLong = text_of
    (codes "The file has more than 2^24 bytes, which is 16 MiB."
    ∷ codes "Instead: A shorter program. Data belongs into the input, which has no such limit, and a `read` takes"
    ∷ codes "it."
    ∷ [])
fault_text fault.Byte = text_of
    (codes "The byte at this place begins no word, number, string, sign, blank or comment. It is a sign that the"
    ∷ codes "language lacks (`\"`, `!`, `&`, `%`, `?`, `@`, `.` alone, `_` in front of a name), or a letter with"
    ∷ codes "an accent or a slanted quote outside of strings and comments."
    ∷ codes "Instead: The sign of this language: `/=` for 'not equal', `'a'` for a string, `$` for a comment."
    ∷ codes "Names have letters from a to z, digits and, behind the first letter, `_`."
    ∷ [])
fault_text fault.OpenString = text_of
    (codes "The string whose opening apostrophe stands at this place has no closing one on its line."
    ∷ codes "Instead: Two apostrophes where one is meant inside a string: `'it''s so'`. A string of several lines"
    ∷ codes "doesn't exist: one `print` for each line."
    ∷ [])
fault_text fault.WideNumber = text_of
    (codes "The number whose first digit stands at this place is above 2^127 - 1."
    ∷ codes "Instead: A string or a tuple of parts, if so many digits are needed. The least integer is written"
    ∷ codes "`-170141183460469231731687303715884105727 - 1`."
    ∷ [])
fault_text fault.Syntax = text_of
    (codes "The token at this place can't stand there: with it the source so far is the beginning of no program."
    ∷ codes "What is wrong often stands just before it. At the end of the file, something is still open there."
    ∷ codes "Instead: Look for a missing `;`, `)`, `then` or `end` before the place (as the `;` behind `x := 1`),"
    ∷ codes "for `=` in place of `:=`, and for a reserved word that was taken for a name (`set`, `range`,"
    ∷ codes "`string`, `max`, `from`, `base`, ..). A loop begins with `(`, as `(for x in s) .. end for;`, and has"
    ∷ codes "neither `do` nor `loop`."
    ∷ [])
fault_text fault.Nesting = text_of
    (codes "The token at this place opens the 201st construct inside 200 that are still open: brackets, `if`,"
    ∷ codes "loops, quantifiers, modes."
    ∷ codes "Instead: A variable for an inner part, or a procedure. Long chains, as `a + b + c`, are no nesting."
    ∷ [])

-- what the rule of this number asks for, and what to write instead
abbrev pub rule_text : ℕ → List ℕ
rule_text rule =
    if rule == 1 then text_of
    (codes "The name behind `end program` isn't the program's."
    ∷ codes "Instead: The same name, or none: `end program;`."
    ∷ [])
    else
    if rule == 2 then text_of
    (codes "The name behind `end proc` isn't that procedure's."
    ∷ codes "Instead: The same name, or none: `end proc;`."
    ∷ [])
    else
    if rule == 3 then text_of
    (codes "Two procedures have the same name. There is one for each name, whatever its parameters are."
    ∷ codes "Instead: Another name for one of them, as `area_of_square`."
    ∷ [])
    else
    if rule == 4 then text_of
    (codes "A procedure has the program's name."
    ∷ codes "Instead: Another name for the program or for the procedure."
    ∷ [])
    else
    if rule == 5 then text_of
    (codes "A name stands twice in `var`."
    ∷ codes "Instead: Each name once. A `var` makes it one variable for the main program and all procedures."
    ∷ [])
    else
    if rule == 6 then text_of
    (codes "A name in `var` is a procedure's."
    ∷ codes "Instead: Another name for one of them."
    ∷ [])
    else
    if rule == 7 then text_of
    (codes "A parameter stands twice in one list."
    ∷ codes "Instead: A name for each parameter."
    ∷ [])
    else
    if rule == 8 then text_of
    (codes "A parameter has a procedure's name."
    ∷ codes "Instead: Another name for the parameter."
    ∷ [])
    else
    if rule == 9 then text_of
    (codes "A procedure's name stands where only a variable may: without a list of arguments, as a target, as a"
    ∷ codes "bound name, or as the map of `y = f(x)`."
    ∷ codes "Instead: A call has its parentheses, also where they are empty: `x := area();`. A procedure is no"
    ∷ codes "value: what is to be handed on is a map, or a name by which an `if` chooses the call."
    ∷ [])
    else
    if rule == 10 then text_of
    (codes "A call has too many arguments or too few."
    ∷ codes "Instead: As many arguments as parameters. What may be missing is handed in as `om`: `area(3, om)`,"
    ∷ codes "and the procedure tests `b = om`."
    ∷ [])
    else
    if rule == 11 then text_of
    (codes "An argument for a `wr` or `rw` parameter isn't a variable's name."
    ∷ codes "Instead: A variable, and around the call an assignment each: `u := t(1); grow(u); t(1) := u;`."
    ∷ [])
    else
    if rule == 12 then text_of
    (codes "A statement calls what is no procedure, or empty parentheses stand behind what is none."
    ∷ codes "Instead: The name as the procedure has it. Input and output are `read` and `print`; there are no"
    ∷ codes "others. In an expression `f(x)` without a procedure `f` breaks no rule, since it selects from a"
    ∷ codes "variable `f`; a run stops there with `om`."
    ∷ [])
    else
    if rule == 13 then text_of
    (codes "`quit` or `continue` stands outside every loop. A loop around the call doesn't count."
    ∷ codes "Instead: In a procedure `return`, with a value that the loop tests; in the main program `stop`,"
    ∷ codes "which ends the run."
    ∷ [])
    else
    if rule == 14 then text_of
    (codes "`return` stands in the main program."
    ∷ codes "Instead: `stop;`, which ends the run with status 0."
    ∷ [])
    else
    if rule == 15 then text_of
    (codes "One list of iterators binds a name twice."
    ∷ codes "Instead: A name for each iterator: `(for x in {1, 2}, y in {3, 4})`."
    ∷ [])
    else
    if rule == 16 then text_of
    (codes "Inside a former, a name that the former binds is bound by a quantifier, or handed to a `wr` or `rw`"
    ∷ codes "parameter."
    ∷ codes "Instead: Another name inside: `{x : x in s | exists y in x | y = 2}`."
    ∷ [])
    else
    if rule == 17 then text_of
    (codes "A name stands twice in a tuple target."
    ∷ codes "Instead: A name once, and `-` for a component that isn't wanted: `[-, a] := [1, 2];`."
    ∷ [])
    else
    if rule == 18 then text_of
    (codes "One call hands the same variable to two `wr` or `rw` parameters."
    ∷ codes "Instead: Two variables."
    ∷ [])
    else
    if rule == 19 then text_of
    (codes "A base is declared twice."
    ∷ codes "Instead: Each base once."
    ∷ [])
    else
    if rule == 20 then text_of
    (codes "A base's name is a procedure's, a parameter's or a variable's too."
    ∷ codes "Instead: Another name for the base, as `towns`. Statements never name a base."
    ∷ [])
    else
    if rule == 21 then text_of
    (codes "An `elmt` names no base of an earlier line."
    ∷ codes "Instead: The line with `base` comes first."
    ∷ [])
    else
    if rule == 22 then text_of
    (codes "The mode of a base has an `elmt`, `local`, `remote` or `sparse` in it."
    ∷ codes "Instead: A mode of plain values: `base road: tuple(string);`."
    ∷ [])
    else
    if rule == 23 then text_of
    (codes "A variable is declared twice."
    ∷ codes "Instead: One declaration. `general` takes values of all kinds."
    ∷ [])
    else
    if rule == 24 then text_of
    (codes "A declared name is no variable of the main program and none in `var`: it stands nowhere in the"
    ∷ codes "statements, or it is a procedure."
    ∷ codes "Instead: The name as the statements have it. Variables of a procedure aren't declared, unless they"
    ∷ codes "stand in `var`."
    ∷ [])
    else
    if rule == 25 then text_of
    (codes "`local` stands elsewhere than as the first word of a variable's mode."
    ∷ codes "Instead: `sparse` or `remote` inside, or no word: `road: local mmap{elmt town} sparse set(elmt"
    ∷ codes "town);`."
    ∷ [])
    else
    if rule == 26 then text_of
    (codes "`local`, `remote` or `sparse` stands before something else than a `set`, `smap` or `mmap` on an"
    ∷ codes "`elmt`."
    ∷ codes "Instead: No such word, `s: set(int);`, or a base: `base number: int; s: sparse set(elmt number);`."
    ∷ [])
    else
    if rule == 27 then text_of
    (codes "An `elmt` stands inside a `set`, `smap` or `mmap` whose first mode is no `elmt`, or deeper in a"
    ∷ codes "`tuple` than as its whole mode."
    ∷ codes "Instead: The plain mode inside: `groups: set(set(string));`."
    ∷ [])
    else
    if rule == 28 then text_of
    (codes "The second mode of an `mmap` is no `set`."
    ∷ codes "Instead: The set of the images, `mmap{elmt town} set(elmt town)`, or an `smap`, where each argument"
    ∷ codes "has one image."
    ∷ [])
    else []

-- what a stop means, with an example, and what to write instead
abbrev pub stop_text : Stop → List ℕ
stop_text stop.Om = text_of
    (codes "om: A value is missing where one is needed. It comes from a variable without a value, also one whose"
    ∷ codes "name was mistyped; a place past the end of a tuple or string; a map without that argument, or with"
    ∷ codes "several images of it; an `arb` or `max/` of an empty set; the end of the input; a procedure without"
    ∷ codes "`return e`."
    ∷ codes ""
    ∷ codes "    program missing_value;"
    ∷ codes "    age := {['Anna', 31]};"
    ∷ codes "    (for name in ['Anna', 'Ben'])"
    ∷ codes "      print(name, age(name) + 1);"
    ∷ codes "    end for;"
    ∷ codes "    end program;"
    ∷ codes ""
    ∷ codes "writes"
    ∷ codes ""
    ∷ codes "    Anna 32"
    ∷ codes ""
    ∷ codes "and tells"
    ∷ codes ""
    ∷ codes "    line 4: om"
    ∷ codes ""
    ∷ codes "Instead: A test before it: `if age(name) = om then .. end if;`. `=`, `/=`, the tests `is_..`,"
    ∷ codes "`print`, `:=`, tuples and arguments take `om`. RECIPES.md says how to find where it came from."
    ∷ [])
stop_text stop.Kind = text_of
    (codes "kind: An operator has a value of a kind that it doesn't take: a string in a sum with an integer, a"
    ∷ codes "set that is no map before `( )`, a condition that is no truth value, an iterated value that is no"
    ∷ codes "set, tuple or string."
    ∷ codes ""
    ∷ codes "    program kind;"
    ∷ codes "    n := 3;"
    ∷ codes "    print('n is ' + n);"
    ∷ codes "    end program;"
    ∷ codes ""
    ∷ codes "tells"
    ∷ codes ""
    ∷ codes "    line 3: kind"
    ∷ codes ""
    ∷ codes "Instead: `'n is ' + str n`, or `print('n is', n)`. `is_integer`, `is_string`, `is_set` and their"
    ∷ codes "like test a value. A tuple isn't less or greater than another; a string has no `in`."
    ∷ [])
stop_text stop.Zero = text_of
    (codes "zero: A division by 0, by `div` or `mod`, or a range whose step is 0, as `[1, 1..5]`."
    ∷ codes ""
    ∷ codes "    program zero;"
    ∷ codes "    persons := {};"
    ∷ codes "    print(100 div #persons);"
    ∷ codes "    end program;"
    ∷ codes ""
    ∷ codes "tells"
    ∷ codes ""
    ∷ codes "    line 3: zero"
    ∷ codes ""
    ∷ codes "Instead: A test before it: `if persons /= {} then .. end if;`."
    ∷ [])
stop_text stop.Range = text_of
    (codes "range: A place or a number is out of range: a place below 1 in a tuple or string, the bounds of a"
    ∷ codes "part `t(i..j)` past the end, a negative exponent, a negative number of copies or of members of a"
    ∷ codes "subset."
    ∷ codes ""
    ∷ codes "    program range_of_places;"
    ∷ codes "    t := [10, 20, 30];"
    ∷ codes "    print(t(0));"
    ∷ codes "    end program;"
    ∷ codes ""
    ∷ codes "tells"
    ∷ codes ""
    ∷ codes "    line 3: range"
    ∷ codes ""
    ∷ codes "Instead: Places are counted from 1, so the first is `t(1)` and the last `t(#t)`. A part needs 1 <= i"
    ∷ codes "<= j + 1 and j <= #t; `t(i..j min #t)` cuts it off at the end."
    ∷ [])
stop_text stop.Wide = text_of
    (codes "wide: An integer leaves 128 bits: it isn't from -2^127 to 2^127 - 1. In a `read` it is an integer of"
    ∷ codes "the input."
    ∷ codes ""
    ∷ codes "    program wide;"
    ∷ codes "    print(2 ** 126 + (2 ** 126 - 1));"
    ∷ codes "    print(2 ** 127);"
    ∷ codes "    end program;"
    ∷ codes ""
    ∷ codes "writes"
    ∷ codes ""
    ∷ codes "    170141183460469231731687303715884105727"
    ∷ codes ""
    ∷ codes "and tells"
    ∷ codes ""
    ∷ codes "    line 3: wide"
    ∷ codes ""
    ∷ codes "Instead: Smaller numbers, as remainders by `mod` between the steps, or tuples of digits."
    ∷ [])
stop_text stop.Deep = text_of
    (codes "deep: A value has more than 500 sets or tuples inside one another."
    ∷ codes ""
    ∷ codes "    program deep;"
    ∷ codes "    list := [];"
    ∷ codes "    (for i in [1..1000])"
    ∷ codes "      list := [i, list];"
    ∷ codes "    end for;"
    ∷ codes "    end program;"
    ∷ codes ""
    ∷ codes "tells"
    ∷ codes ""
    ∷ codes "    line 4: deep"
    ∷ codes ""
    ∷ codes "Instead: A flat form: `list with:= i;` makes a tuple with i at its end. A tree of many levels is a"
    ∷ codes "map from numbers to nodes."
    ∷ [])
stop_text stop.Form = text_of
    (codes "form: The input holds no value where a `read` stands: bare words, fractions, a bracket or a string"
    ∷ codes "that isn't closed."
    ∷ codes ""
    ∷ codes "    program form;"
    ∷ codes "    read(name);"
    ∷ codes "    print('hello', name);"
    ∷ codes "    end program;"
    ∷ codes ""
    ∷ codes "with the input"
    ∷ codes ""
    ∷ codes "    Anna"
    ∷ codes ""
    ∷ codes "tells"
    ∷ codes ""
    ∷ codes "    line 2: form"
    ∷ codes ""
    ∷ codes "Instead: Strings of the input stand between apostrophes, as in `'Anna'`. RECIPES.md makes such"
    ∷ codes "strings of the lines of a text."
    ∷ [])
stop_text stop.Nothing = text_of
    (codes "nothing to go back to: A `fail` was met, and no `ok` is left that it could go back to; or a"
    ∷ codes "`succeed`, and none is left that it could forget."
    ∷ codes ""
    ∷ codes "    program nothing;"
    ∷ codes "    x := 3;"
    ∷ codes "    if notexists y in {1, 2} | y > x then"
    ∷ codes "      fail;"
    ∷ codes "    end if;"
    ∷ codes "    end program;"
    ∷ codes ""
    ∷ codes "tells"
    ∷ codes ""
    ∷ codes "    line 4: nothing to go back to"
    ∷ codes ""
    ∷ codes "Instead: Around the search `if ok then .. else .. end if;`: when all choices failed, this `ok` is"
    ∷ codes "false and the `else` part runs. A `succeed` stands where its `ok` is still remembered. To end a run"
    ∷ codes "use `stop;`."
    ∷ [])
stop_text stop.Value = text_of
    (codes "value does not fit NAME: A value was to be stored in the declared variable NAME, and its mode"
    ∷ codes "doesn't take it. The variable keeps its old value."
    ∷ codes ""
    ∷ codes "    program unfit;"
    ∷ codes "    repr"
    ∷ codes "      age: smap(string) int;"
    ∷ codes "    end repr;"
    ∷ codes "    age := {};"
    ∷ codes "    age('Anna') := 31;"
    ∷ codes "    age('Ben') := 'thirty';"
    ∷ codes "    end program;"
    ∷ codes ""
    ∷ codes "tells"
    ∷ codes ""
    ∷ codes "    line 7: value does not fit age"
    ∷ codes ""
    ∷ codes "Instead: A value that fits, or a wider mode: `smap(string) general`. In an `smap` each argument has"
    ∷ codes "one image; an `mmap` takes several. `setl run --unbased FILE` leaves declarations out of account."
    ∷ [])
