-- How often the keywords that begin a file's parts stand in what a tree spells: none in conditions and bodies, so `try`
-- as often as there are tries, `method` as there are methods and `waituntil` as there are regions, in the file and before
-- each.
use Prim.Native.Nat.{suc, ◌+◌}
use native.Mathlib.Omega.{arith}
use mathlib.Core.Path.{◌≡◌, refl, ap, ◌∙◌}
use mathlib.Core.Bool.{Bool, true, false}
use mathlib.Core.List.{List, [], ◌∷◌, ◌++◌, head-eq_of_cons-eq}
use lib.ListN.{length, length-append}
use Rattle.syntax.specs.Token.{Lexeme, name, key, number, mark, lbrace, rbrace, lparen, rparen, semicolon, equals, dots}
use Rattle.syntax.specs.Token.{becomes, minus, bang, and_and, or_or, Keyword, k_monitor, k_var, k_in, k_keep, k_method}
use Rattle.syntax.specs.Token.{k_waituntil, k_if, k_else, k_true, k_false, k_try, k_mod}
use Rattle.syntax.specs.Decide.Lexeme.{is_key, keyword_number}
use Rattle.syntax.specs.Tree.{Int, plain, negated, Atom, literal, variable, Term, alone, remainder, Signed, Expr}
use Rattle.syntax.specs.Tree.{Cond, only, or, Conj, just, and}
use Rattle.syntax.specs.Tree.{Simple, negation, bracketed, constant, compare, Block, end, then, Stmt, assign, if_then}
use Rattle.syntax.specs.Tree.{if_else, Region, Method, Var, Monitor, all, each, spell, spell_int, spell_atom, sign_mark}
use Rattle.syntax.specs.Tree.{spell_term, spell_signed, spell_expr, comparison_mark, spell_constant, spell_cond, spell_conj, spell_simple}
use Rattle.syntax.specs.Tree.{spell_block, spell_stmt, spell_region, spell_method, spell_var, spell_try}
use Rattle.logic.proofs.Bools.{different}
use Rattle.meaning.specs.Runs.{regions_of}
use Rattle.meaning.proofs.KeywordPlaces.{times, times_append}
use Rattle.meaning.specs.Before.{up_to, up_to_try, up_to_method, up_to_region}

-- A keyword that is not there

module _ (k : Keyword) where
  record Free (w : List Lexeme) : Type 0 where
    none : times k w ≡ 0

  nil : Free []
  unfolding times
  nil = record { none = refl }

  next : (l : Lexeme) {w : List Lexeme} → is_key k l ≡ false → Free w → Free (l ∷ w)
  unfolding times
  next l h p = record { none = rw (h, times) p.none }

  join : {v w : List Lexeme} → Free v → Free w → Free (v ++ w)
  join {v} {w} p q = record { none = let e = times_append k v w in omega (arith, p.none, q.none) }

  -- it is as often behind
  over : {v : List Lexeme} → Free v → (w : List Lexeme) → times k (v ++ w) ≡ times k w
  over {v} p w = let e = times_append k v w in omega (arith, p.none)

  of_int : (i : Int) → Free (spell_int i)
  unfolding spell_int is_key
  of_int (plain n) = next (number n) refl nil
  of_int (negated n) = next (mark minus) refl (next (number n) refl nil)

  of_atom : (a : Atom) → Free (spell_atom a)
  unfolding spell_atom is_key
  of_atom (literal i) = of_int i
  of_atom (variable x) = next (name x) refl nil

-- it is none of the words of conditions and bodies
record Outer (k : Keyword) : Type 0 where
  no_mod : is_key k (key k_mod) ≡ false
  no_if : is_key k (key k_if) ≡ false
  no_else : is_key k (key k_else) ≡ false
  no_true : is_key k (key k_true) ≡ false
  no_false : is_key k (key k_false) ≡ false

module _ (k : Keyword) (outer : Outer k) where
  of_term : (t : Term) → Free k (spell_term t)
  unfolding spell_term
  of_term (alone a) = of_atom k a
  of_term (remainder a b) = join k (of_atom k a) (next k (key k_mod) outer.no_mod (of_atom k b))

  of_terms : (ts : List Signed) → Free k (each spell_signed ts)
  unfolding each spell_signed is_key
  of_terms [] = nil k
  of_terms (t ∷ ts) = join k (next k (mark (sign_mark t.sign)) refl (of_term t.term)) (of_terms ts)

  of_expr : (e : Expr) → Free k (spell_expr e)
  unfolding spell_expr
  of_expr e = join k (of_term e.first) (of_terms e.more)

  of_constant : (b : Bool) → Free k (spell_constant b)
  unfolding spell_constant
  of_constant true = next k (key k_true) outer.no_true (nil k)
  of_constant false = next k (key k_false) outer.no_false (nil k)

  mutual
    unfolding spell_cond is_key

    of_cond : (c : Cond) → Free k (spell_cond c)
    of_cond (only c) = of_conj c
    of_cond (or c d) = join k (of_conj c) (next k (mark or_or) refl (of_cond d))

    of_conj : (c : Conj) → Free k (spell_conj c)
    of_conj (just s) = of_simple s
    of_conj (and s c) = join k (of_simple s) (next k (mark and_and) refl (of_conj c))

    of_simple : (s : Simple) → Free k (spell_simple s)
    of_simple (negation s) = next k (mark bang) refl (of_simple s)
    of_simple (bracketed c) = next k (mark lparen) refl (join k (of_cond c) (next k (mark rparen) refl (nil k)))
    of_simple (constant b) = of_constant b
    of_simple (compare e o f) = join k (of_expr e) (next k (mark (comparison_mark o)) refl (of_expr f))

  -- what stands in brackets, and in braces, with something behind
  bracketed_then : {w v : List Lexeme} → Free k w → Free k v → Free k (mark lparen ∷ (w ++ (mark rparen ∷ v)))
  unfolding is_key
  bracketed_then p q = next k (mark lparen) refl (join k p (next k (mark rparen) refl q))

  braced_then : {w v : List Lexeme} → Free k w → Free k v → Free k (mark lbrace ∷ (w ++ (mark rbrace ∷ v)))
  unfolding is_key
  braced_then p q = next k (mark lbrace) refl (join k p (next k (mark rbrace) refl q))

  mutual
    unfolding spell_block is_key

    of_block : (b : Block) → Free k (spell_block b)
    of_block end = nil k
    of_block (then s b) = join k (of_stmt s) (of_block b)

    of_stmt : (s : Stmt) → Free k (spell_stmt s)
    of_stmt (assign x e) =
        next k (name x) refl (next k (mark becomes) refl (join k (of_expr e) (next k (mark semicolon) refl (nil k))))
    of_stmt (if_then c b) =
        next k (key k_if) outer.no_if (bracketed_then (of_cond c) (braced_then (of_block b) (nil k)))
    of_stmt (if_else c a b) =
        next k (key k_if) outer.no_if (bracketed_then (of_cond c) (braced_then (of_block a)
        (next k (key k_else) outer.no_else (braced_then (of_block b) (nil k)))))

  -- a region but its first word
  behind_wait : (q : Region)
      → Free k (mark lparen ∷ (spell_cond q.guard
      ++ (mark rparen ∷ mark lbrace ∷ (spell_block q.body ++ (mark rbrace ∷ [])))))
  behind_wait q = bracketed_then (of_cond q.guard) (braced_then (of_block q.body) (nil k))

  -- a try but its word
  behind_try : (c : Cond) → Free k (spell_cond c ++ (mark semicolon ∷ []))
  unfolding is_key
  behind_try c = join k (of_cond c) (next k (mark semicolon) refl (nil k))

-- What stands before the variables, and they, have no other keyword

module _ (k : Keyword) (no_monitor : is_key k (key k_monitor) ≡ false) (no_var : is_key k (key k_var) ≡ false)
    (no_in : is_key k (key k_in) ≡ false) where
  of_vars : (vs : List Var) → Free k (each spell_var vs)
  unfolding each spell_var is_key
  of_vars [] = nil k
  of_vars (v ∷ vs) =
      join k (next k (key k_var) no_var (next k (name v.title) refl (next k (mark equals) refl
      (join k (of_int k v.start) (next k (key k_in) no_in
      (join k (of_int k v.low) (next k (mark dots) refl
      (join k (of_int k v.high) (next k (mark semicolon) refl (nil k)))))))))) (of_vars vs)

  of_front : (m : Monitor) (vs : List Var) → Free k (up_to m vs)
  unfolding up_to is_key
  of_front m vs =
      next k (key k_monitor) no_monitor (next k (name m.title) refl (next k (mark lbrace) refl (of_vars vs)))

-- `try`, `method` and `waituntil`

outer_try : Outer k_try
unfolding is_key keyword_number
outer_try = record { no_mod = refl; no_if = refl; no_else = refl; no_true = refl; no_false = refl }

outer_method : Outer k_method
unfolding is_key keyword_number
outer_method = record { no_mod = refl; no_if = refl; no_else = refl; no_true = refl; no_false = refl }

outer_wait : Outer k_waituntil
unfolding is_key keyword_number
outer_wait = record { no_mod = refl; no_if = refl; no_else = refl; no_true = refl; no_false = refl }

try_here : (ls : List Lexeme) → times k_try (key k_try ∷ ls) ≡ suc (times k_try ls)
unfolding times is_key keyword_number
try_here ls = refl

method_here : (ls : List Lexeme) → times k_method (key k_method ∷ ls) ≡ suc (times k_method ls)
unfolding times is_key keyword_number
method_here ls = refl

wait_here : (ls : List Lexeme) → times k_waituntil (key k_waituntil ∷ ls) ≡ suc (times k_waituntil ls)
unfolding times is_key keyword_number
wait_here ls = refl

-- one in each of some parts, or none
each_one : {A : Type 0} (k : Keyword) (f : A → List Lexeme) → ((a : A) → times k (f a) ≡ 1) → (as' : List A)
    → times k (each f as') ≡ length as'
unfolding each times
each_one k f h [] = refl
each_one k f h (a ∷ as') =
    let e = times_append k (f a) (each f as') in let one = h a in let rest = each_one k f h as' in omega arith

each_none : {A : Type 0} (k : Keyword) (f : A → List Lexeme) → ((a : A) → Free k (f a)) → (as' : List A)
    → Free k (each f as')
unfolding each
each_none k f h [] = nil k
each_none k f h (a ∷ as') = join k (h a) (each_none k f h as')

try_once : (c : Cond) → times k_try (spell_try c) ≡ 1
unfolding spell_try
try_once c = try_here _ ∙ ap suc (behind_try k_try outer_try c).none

pub tries_once : (cs : List Cond) → times k_try (each spell_try cs) ≡ length cs
tries_once = each_one k_try spell_try try_once

tries_free : (k : Keyword) → Outer k → is_key k (key k_try) ≡ false → (cs : List Cond) → Free k (each spell_try cs)
unfolding spell_try
tries_free k outer h = each_none k spell_try (λ c. next k (key k_try) h (behind_try k outer c))

region_waits : (q : Region) → times k_waituntil (spell_region q) ≡ 1
unfolding spell_region
region_waits q = wait_here _ ∙ ap suc (behind_wait k_waituntil outer_wait q).none

region_free : (q : Region) → Free k_method (spell_region q)
unfolding spell_region is_key keyword_number
region_free q = next k_method (key k_waituntil) refl (behind_wait k_method outer_method q)

regions_wait : (qs : List Region) → times k_waituntil (each spell_region qs) ≡ length qs
regions_wait = each_one k_waituntil spell_region region_waits

method_once : (x : Method) → times k_method (spell_method x) ≡ 1
unfolding spell_method is_key
method_once x =
    method_here _ ∙ ap suc (next k_method (name x.title) refl (braced_then k_method outer_method
    (each_none k_method spell_region region_free (all x.regions)) (nil k_method))).none

method_waits : (x : Method) → times k_waituntil (spell_method x) ≡ length (all x.regions)
unfolding spell_method times is_key keyword_number
method_waits x =
    let a = times_append k_waituntil (each spell_region (all x.regions)) (mark rbrace ∷ []) in
    let b = regions_wait (all x.regions) in
    omega arith

pub methods_once : (ms : List Method) → times k_method (each spell_method ms) ≡ length ms
methods_once = each_one k_method spell_method method_once

pub methods_wait : (ms : List Method) → times k_waituntil (each spell_method ms) ≡ length (regions_of ms)
unfolding each regions_of times
methods_wait [] = refl
methods_wait (x ∷ ms) =
    let l = length-append (all x.regions) (regions_of ms) in
    let e = times_append k_waituntil (spell_method x) (each spell_method ms) in
    let one = method_waits x in
    let rest = methods_wait ms in
    omega arith

-- Before each part, and in the file

-- what stands before the first try
to_tries : (k : Keyword) → Outer k → is_key k (key k_monitor) ≡ false → is_key k (key k_var) ≡ false
    → is_key k (key k_in) ≡ false → is_key k (key k_keep) ≡ false → (m : Monitor) (ls : List Lexeme)
    → times k (up_to m (all m.vars) ++ (key k_keep ∷ (spell_cond m.keep ++ (mark semicolon ∷ ls)))) ≡ times k ls
unfolding is_key
to_tries k outer p q r s m ls =
    over k (of_front k p q r m (all m.vars)) (key k_keep ∷ rest)
    ∙ over k (next k (key k_keep) s (nil k)) rest
    ∙ over k (of_cond k outer m.keep) (mark semicolon ∷ ls)
    ∙ over k (next k (mark semicolon) refl (nil k)) ls
  where
    rest : List Lexeme
    rest = spell_cond m.keep ++ (mark semicolon ∷ ls)

pub try_number : (m : Monitor) (before : List Cond) → times k_try (up_to_try m before) ≡ length before
unfolding up_to_try is_key keyword_number
try_number m before = to_tries k_try outer_try refl refl refl refl m (each spell_try before) ∙ tries_once before

-- what stands before the first method
to_methods : (k : Keyword) → Outer k → is_key k (key k_monitor) ≡ false → is_key k (key k_var) ≡ false
    → is_key k (key k_in) ≡ false → is_key k (key k_keep) ≡ false → is_key k (key k_try) ≡ false → (m : Monitor)
    (ls : List Lexeme) → times k (up_to_try m m.tries ++ ls) ≡ times k ls
unfolding up_to_try
to_methods k outer p q r s t m ls =
    let e = times_append k (up_to_try m m.tries) ls in
    let a = to_tries k outer p q r s m (each spell_try m.tries) in
    omega (arith, (tries_free k outer t m.tries).none)

pub method_number : (m : Monitor) (before : List Method) → times k_method (up_to_method m before) ≡ length before
unfolding up_to_method is_key keyword_number
method_number m before =
    to_methods k_method outer_method refl refl refl refl refl m (each spell_method before) ∙ methods_once before

-- the regions before a method, and before a region of it
pub regions_before : (m : Monitor) (before : List Method)
    → times k_waituntil (up_to_method m before) ≡ length (regions_of before)
unfolding up_to_method is_key keyword_number
regions_before m before =
    to_methods k_waituntil outer_wait refl refl refl refl refl m (each spell_method before) ∙ methods_wait before

pub region_number : (m : Monitor) (methods : List Method) (x : Method) (before : List Region)
    → times k_waituntil (up_to_region m methods x before) ≡ length (regions_of methods) + length before
unfolding up_to_region times is_key keyword_number
region_number m methods x before =
    let e = times_append k_waituntil (up_to_method m methods)
    (key k_method ∷ name x.title ∷ mark lbrace ∷ each spell_region before) in
    let a = regions_before m methods in
    let b = regions_wait before in
    omega arith

pub method_count : (m : Monitor) → times k_method (spell m) ≡ length (all m.methods)
unfolding spell up_to times is_key keyword_number
method_count m =
    let ms = each spell_method (all m.methods) in
    let e = to_tries k_method outer_method refl refl refl refl m (each spell_try m.tries ++ (ms ++ (mark rbrace ∷ []))) in
    let f = over k_method (tries_free k_method outer_method refl m.tries) (ms ++ (mark rbrace ∷ [])) in
    let a = times_append k_method ms (mark rbrace ∷ []) in
    let b = methods_once (all m.methods) in
    omega arith

-- no method has a `try`
method_free : (x : Method) → Free k_try (spell_method x)
unfolding spell_method spell_region is_key keyword_number
method_free x =
    next k_try (key k_method) refl (next k_try (name x.title) refl (braced_then k_try outer_try
    (each_none k_try spell_region (λ q. next k_try (key k_waituntil) refl (behind_wait k_try outer_try q))
    (all x.regions)) (nil k_try)))

pub try_count : (m : Monitor) → times k_try (spell m) ≡ length m.tries
unfolding spell up_to times is_key keyword_number
try_count m =
    let ms = each spell_method (all m.methods) in
    let e = to_tries k_try outer_try refl refl refl refl m (each spell_try m.tries ++ (ms ++ (mark rbrace ∷ []))) in
    let a = times_append k_try (each spell_try m.tries) (ms ++ (mark rbrace ∷ [])) in
    let b = over k_try (each_none k_try spell_method method_free (all m.methods)) (mark rbrace ∷ []) in
    let c = tries_once m.tries in
    omega arith

-- a condition does not begin with `monitor`
pub not_monitor : (c : Cond) (us ls : List Lexeme) → spell_cond c ++ (mark rparen ∷ us) ≡ key k_monitor ∷ ls → ⊥
unfolding times is_key keyword_number
not_monitor c us ls e =
    go (spell_cond c)
    (of_cond k_monitor (record { no_mod = refl; no_if = refl; no_else = refl; no_true = refl; no_false = refl }) c).none e
  where
    go : (w : List Lexeme) → times k_monitor w ≡ 0 → w ++ (mark rparen ∷ us) ≡ key k_monitor ∷ ls → ⊥
    go [] z e = different (cc)
    go (l ∷ w) z e =
        let y : times k_monitor (key k_monitor ∷ w) ≡ 0 = rw (head-eq_of_cons-eq e) at z in omega arith
