-- The bases that classes name are classes.
use Rattle.std.proofs.Common.{◌≡◌, ℕ, ◌+◌, ◌≤◌, ◌<◌, zero, suc, List, [], ◌∷◌, ◌++◌, codes, length, length-append, map, Bool, true, false, cond, Option, Some, None, sym, ap, ◌∙◌, refl, arith, subst}
use Rattle.std.specs.List.{AllByRecursion}
use Rattle.std.specs.Str.{bytes_eq}
use Rattle.rpy_nodes.specs.declared.listing.Named.{Named}
use Rattle.names_bound.specs.Declare.{class_here}
use Rattle.names_bound.specs.Scopes as code
use Rattle.names_bound.specs.Scopes.{base_in}
use Rattle.names_bound.specs.declared.imports.Source.{Source}
use Rattle.names_bound.specs.declared.imports.Source.TheVariants as source
use Rattle.names_bound.specs.declared.stand.Stand.{Stand}
use Rattle.names_bound.specs.declared.stand.Stand.TheVariants as stand
use Rattle.names_rules.specs.Bases as rule
use Rattle.names_rules.specs.Bases.{Stated, stated, classes}
use Rattle.names_rules.specs.Bindings.{Binding, Counts, none_before, count, binding, unless_inside, binds, bindings_from, look, add_by, add, add_all, if_inside, class_binds, class_bindings_from}
use Rattle.names_rules.specs.Imports.{Bound, Is, From, module_or, import_stand, file_of, source_of, arithmetic, taken}
use Rattle.names_rules.specs.Listed.{module_names}
use Rattle.names_rules.specs.Members as member
use Rattle.names_rules.specs.Members.{What, Placed, members}
use Rattle.names_rules.specs.Program.{module_bindings, body_bindings, named_bases}
use Rattle.names_rules.specs.Scopes as scope
use Rattle.names_rules.specs.Words.{Table, words, find, known}

-- a class has a number below this
abbrev InRange : ℕ → Stand → Type 0
InRange n (stand.Class c) = c < n
InRange n other = Unit {0}

abbrev BoundIn : ℕ → Bound → Type 0
BoundIn n (Is s) = InRange n s
BoundIn n (From file name) = Unit {0}

abbrev AllIn : ℕ → List Binding → Type 0
AllIn n bs = AllByRecursion (λ b. BoundIn n b.bound) bs

either_in : (n : ℕ) (b : Bool) (s t : Stand) → InRange n s → InRange n t → InRange n (cond b s t)
either_in n true s t h k = h
either_in n false s t h k = k

find_in : (n : ℕ) (ws : Table) (name : List ℕ) → AllByRecursion (λ w. InRange n w.1) ws → InRange n (find ws name)
find_in n [] name h = tt
find_in n (w ∷ ws) name h = either_in n (bytes_eq name w.0) w.1 (find ws name) h.0 (find_in n ws name h.1)

words_in : (n : ℕ) → 13 ≤ n → AllByRecursion (λ w. InRange n w.1) words
words_in n h = (tt, (tt, (tt, (tt, (tt, (tt, (tt, (tt, (tt, (tt, (tt, (tt, (tt, (omega (arith, h), (omega (arith, h), (omega (arith, h), (omega (arith, h), (omega (arith, h), (omega (arith, h), (omega (arith, h), (omega (arith, h), (omega (arith, h), (omega (arith, h), (omega (arith, h), (omega (arith, h), (omega (arith, h), (tt, (tt, (tt, (tt, (tt, (tt, (tt, (tt, (tt, (tt, (tt, tt)))))))))))))))))))))))))))))))))))))

known_in : (n : ℕ) (name : List ℕ) → 13 ≤ n → InRange n (known name)
known_in n name h = find_in n words name (words_in n h)

-- ---- what is bound

module_in : (n : ℕ) (o : Option ℕ) → InRange n (module_or o)
module_in n None = tt
module_in n (Some file) = tt

import_in : (n : ℕ) (modules : List (List ℕ)) (name : List ℕ) → InRange n (import_stand modules name)
import_in n modules name = either_in n (bytes_eq (codes "os") name) stand.Os _ tt (either_in n (bytes_eq (codes "sys") name) stand.Sys (module_or (file_of modules name)) tt (module_in n (file_of modules name)))

arithmetic_in : (n : ℕ) (name : List ℕ) → InRange n (arithmetic name)
arithmetic_in n name = either_in n (bytes_eq (codes "ovfcheck") name) _ _ tt (either_in n (bytes_eq (codes "intmask") name) _ stand.Missing tt tt)

taken_in : (n : ℕ) (s : Source) (name : List ℕ) → BoundIn n (taken s name)
taken_in n (source.Module file) name = tt
taken_in n source.Arithmetic name = arithmetic_in n name
taken_in n source.Missing name = tt

all_mapped : (n : ℕ) (f : List ℕ → Binding) (names : List (List ℕ)) → ((name : List ℕ) → BoundIn n (f name).bound) → AllIn n (map f names)
all_mapped n f [] h = tt
all_mapped n f (name ∷ names) h = (h name, all_mapped n f names h)

unless_in : (n : ℕ) (o : Option ℕ) (b : Binding) → BoundIn n b.bound → AllIn n (unless_inside o b)
unless_in n None b h = (h, tt)
unless_in n (Some class) b h = tt

inside_in : (n : ℕ) (o : Option ℕ) (p : Placed) (name : List ℕ) (s : Stand) → InRange n s → AllIn n (if_inside o p name s)
inside_in n None p name s h = tt
inside_in n (Some class) p name s h = (h, tt)

-- so many classes there are
abbrev Room : ℕ → Counts → List Stated → Type 0
Room n c cs = 13 + (c.classes + length cs) ≤ n

binds_in : (n : ℕ) (modules : List (List ℕ)) (c : Counts) (p : Placed) (w : What) → Room n c (stated p w) → AllIn n (binds modules c p w)
binds_in n modules c p (member.Import of) h = all_mapped n (λ name. binding p name (Is (import_stand modules name))) of (λ name. import_in n modules name)
binds_in n modules c p (member.From path of) h = all_mapped n (λ name. binding p name (taken (source_of modules path) name)) of (λ name. taken_in n (source_of modules path) name)
binds_in n modules c p (member.Constant name v) h = unless_in n (class_here p.inside c.classes) (binding p name (Is (stand.Constant c.constants))) tt
binds_in n modules c p (member.Def name ps star body) h = unless_in n (class_here p.inside c.classes) (binding p name (Is (stand.Function c.functions))) tt
binds_in n modules c p (member.Class name base) h = unless_in n (class_here p.inside c.classes) (binding p name (Is (stand.Class (c.classes + 13)))) (omega (arith, h))

class_binds_in : (n : ℕ) (c : Counts) (p : Placed) (w : What) → Room n c (stated p w) → AllIn n (class_binds c p w)
class_binds_in n c p (member.Import of) h = tt
class_binds_in n c p (member.From path of) h = tt
class_binds_in n c p (member.Constant name v) h = inside_in n (class_here p.inside c.classes) p name (stand.Constant c.constants) tt
class_binds_in n c p (member.Def name ps star body) h = inside_in n (class_here p.inside c.classes) p name (stand.Method c.functions) tt
class_binds_in n c p (member.Class name base) h = inside_in n (class_here p.inside c.classes) p name (stand.Class (c.classes + 13)) (omega (arith, h))

counted : (w : What) (p : Placed) (c : Counts) → (count w c).classes ≡ c.classes + length (stated p w)
counted (member.Import of) p c = omega arith
counted (member.From path of) p c = omega arith
counted (member.Constant name v) p c = omega arith
counted (member.Def name ps star body) p c = omega arith
counted (member.Class name base) p c = refl

both_many : (xs ys : List Stated) → length (xs ++ ys) ≡ length xs + length ys
both_many xs ys = length-append xs ys

first_room : (n : ℕ) (c : Counts) (xs ys : List Stated) → Room n c (xs ++ ys) → Room n c xs
first_room n c xs ys h = omega (arith, h, both_many xs ys)

rest_room : (n : ℕ) (c : Counts) (p : Placed) (w : What) (ys : List Stated) → Room n c (stated p w ++ ys) → Room n (count w c) ys
rest_room n c p w ys h = omega (arith, h, both_many (stated p w) ys, counted w p c)

all_both : (n : ℕ) (xs ys : List Binding) → AllIn n xs → AllIn n ys → AllIn n (xs ++ ys)
all_both n [] ys h k = k
all_both n (x ∷ xs) ys h k = (h.0, all_both n xs ys h.1 k)

bindings_in : (n : ℕ) (modules : List (List ℕ)) (ps : List Placed) (c : Counts) → Room n c (classes ps) → AllIn n (bindings_from modules c ps)
bindings_in n modules [] c h = tt
bindings_in n modules (p ∷ ps) c h = all_both n (binds modules c p p.what) (bindings_from modules (count p.what c) ps) (binds_in n modules c p p.what (first_room n c (stated p p.what) (classes ps) h)) (bindings_in n modules ps (count p.what c) (rest_room n c p p.what (classes ps) h))

class_bindings_in : (n : ℕ) (ps : List Placed) (c : Counts) → Room n c (classes ps) → AllIn n (class_bindings_from c ps)
class_bindings_in n [] c h = tt
class_bindings_in n (p ∷ ps) c h = all_both n (class_binds c p p.what) (class_bindings_from (count p.what c) ps) (class_binds_in n c p p.what (first_room n c (stated p p.what) (classes ps) h)) (class_bindings_in n ps (count p.what c) (rest_room n c p p.what (classes ps) h))

by_in : (n : ℕ) (o : Option Binding) (bs : List Binding) (b : Binding) → AllIn n bs → BoundIn n b.bound → AllIn n (add_by o bs b)
by_in n None bs b h k = all_both n bs (b ∷ []) h (k, tt)
by_in n (Some earlier) bs b h k = h

added_in : (n : ℕ) (bs more : List Binding) → AllIn n bs → AllIn n more → AllIn n (add_all bs more)
added_in n bs [] h k = h
added_in n bs (b ∷ more) h k = added_in n (add bs b) more (by_in n (look bs b.scope b.name) bs b h k.0) k.1

-- ---- what is looked up

abbrev FoundIn : ℕ → Option Binding → Type 0
FoundIn n None = Unit {0}
FoundIn n (Some b) = BoundIn n b.bound

found_by : (n : ℕ) (t : Bool) (b : Binding) (o : Option Binding) → BoundIn n b.bound → FoundIn n o → FoundIn n (cond t (Some b) o)
found_by n true b o h k = h
found_by n false b o h k = k

look_in : (n : ℕ) (bs : List Binding) (s : ℕ) (name : List ℕ) → AllIn n bs → FoundIn n (look bs s name)
look_in n [] s name h = tt
look_in n (b ∷ bs) s name h = found_by n _ b (look bs s name) h.0 (look_in n bs s name h.1)

lacking_in : (n : ℕ) (b : Bool) → InRange n (scope.lacking b)
lacking_in n true = tt
lacking_in n false = tt

bound_follow_in : (n : ℕ) (go : ℕ → List ℕ → Stand) (b : Bound) → BoundIn n b → ((file : ℕ) (name : List ℕ) → InRange n (go file name)) → InRange n (scope.follow_bound go b)
bound_follow_in n go (Is s) h k = h
bound_follow_in n go (From file name) h k = k file name

binding_follow_in : (n : ℕ) (go : ℕ → List ℕ → Stand) (t : Bool) (o : Option Binding) → FoundIn n o → ((file : ℕ) (name : List ℕ) → InRange n (go file name)) → InRange n (scope.follow_binding go t o)
binding_follow_in n go t None h k = lacking_in n t
binding_follow_in n go t (Some b) h k = bound_follow_in n go b.bound h k

follow_in : (n : ℕ) (bs : List Binding) (steps : ℕ) (t : Bool) (file : ℕ) (name : List ℕ) → AllIn n bs → InRange n (scope.follow_from bs steps t file name)
follow_in n bs zero t file name h = tt
follow_in n bs (suc steps) t file name h = binding_follow_in n (scope.follow_from bs steps true) t (look bs file name) (look_in n bs file name h) (λ f m. follow_in n bs steps true f m h)

spoken_in : (n : ℕ) (s : Stand) → InRange n s → InRange n (code.spoken s)
spoken_in n stand.Unknown h = tt
spoken_in n s h = h

global_by_in : (n : ℕ) (o : Option Binding) (s : Stand) (name : List ℕ) → 13 ≤ n → InRange n s → InRange n (scope.global_by o s name)
global_by_in n None s name e h = known_in n name e
global_by_in n (Some b) s name e h = spoken_in n s h

stand_in : (n : ℕ) (o : Option Binding) → FoundIn n o → InRange n (scope.stand_of o)
stand_in n None h = tt
stand_in n (Some b) h = bound_in b.bound h where
  bound_in : (x : Bound) → BoundIn n x → InRange n (scope.bound_stand x)
  bound_in (Is s) h = h
  bound_in (From file name) h = tt

at_base_in : (n : ℕ) (go : ℕ → Stand) (o : Option ℕ) → ((c : ℕ) → InRange n (go c)) → InRange n (code.at_base go o)
at_base_in n go None h = tt
at_base_in n go (Some c) h = h c

or_base_in : (n : ℕ) (go : ℕ → Stand) (o : Option ℕ) (s : Stand) → InRange n s → ((c : ℕ) → InRange n (go c)) → InRange n (code.or_at_base go o s)
or_base_in n go o stand.Unknown h k = at_base_in n go o k
or_base_in n go o s h k = h

class_in : (n : ℕ) (cs : List Binding) (bases : List (Option ℕ)) (steps class : ℕ) (name : List ℕ) → AllIn n cs → InRange n (scope.class_from cs bases steps class name)
class_in n cs bases zero class name h = tt
class_in n cs bases (suc steps) class name h = or_base_in n (λ c. scope.class_from cs bases steps c name) (base_in bases class) (scope.stand_of (look cs class name)) (stand_in n (look cs class name) (look_in n cs class name h)) (λ c. class_in n cs bases steps c name h)

member_in : (n : ℕ) (bs cs : List Binding) (bases : List (Option ℕ)) (of : Stand) (name : List ℕ) → AllIn n bs → AllIn n cs → InRange n (scope.member bs cs bases of name)
member_in n bs cs bases (stand.Module file) name h k = follow_in n bs (length bs) false file name h
member_in n bs cs bases (stand.Class class) name h k = class_in n cs bases (length bases) class name k
member_in n bs cs bases stand.Os name h k = either_in n (bytes_eq (codes "write") name) _ stand.Unknown tt tt
member_in n bs cs bases stand.Sys name h k = either_in n (bytes_eq (codes "maxint") name) stand.MaxInt stand.Unknown tt tt
member_in n bs cs bases stand.Missing name h k = tt
member_in n bs cs bases stand.Unknown name h k = tt
member_in n bs cs bases other name h k = tt

-- ---- the bases that are named

abbrev BaseIn : ℕ → Option ℕ → Type 0
BaseIn n None = Unit {0}
BaseIn n (Some b) = b < n

earlier_in : (n : ℕ) (later : Bool) (class : ℕ) → class < n → BaseIn n (rule.class_of (rule.earlier later class))
earlier_in n true class h = tt
earlier_in n false class h = h

judged_in : (n : ℕ) (all : List Stated) (c : Stated) (s : Stand) → InRange n s → BaseIn n (rule.class_of (rule.judged all c s))
judged_in n all c (stand.Class class) h = earlier_in n (rule.comes_later all c class) class h
judged_in n all c stand.Object h = tt
judged_in n all c stand.Missing h = tt
judged_in n all c stand.Unknown h = tt
judged_in n all c other h = tt

bound_before_in : (n : ℕ) (late : Bool) (s : Stand) → InRange n s → InRange n (rule.bound_before late s)
bound_before_in n late stand.Unknown h = tt
bound_before_in n late s h = either_in n late stand.Nothing s tt h

module _ (n : ℕ) (room : 13 ≤ n) (bs cs : List Binding) (bases : List (Option ℕ)) (h : AllIn n bs) (k : AllIn n cs) where
  after_dot_in : (of : Stand) (name : List ℕ) → InRange n (rule.after_dot bs cs bases of name)
  after_dot_in stand.Unknown name = tt
  after_dot_in of name = member_in n bs cs bases of name h k

  after_dots_in : (names : List (List ℕ)) (of : Stand) → InRange n of → InRange n (rule.after_dots bs cs bases of names)
  after_dots_in [] of g = g
  after_dots_in (name ∷ names) of g = after_dots_in names (rule.after_dot bs cs bases of name) (after_dot_in of name)

  path_in : (c : Stated) (names : List (List ℕ)) → InRange n (rule.path bs cs bases c names)
  path_in c [] = tt
  path_in c (name ∷ names) = after_dots_in names (rule.first bs cs bases c name) (bound_before_in n (scope.is_late bs c.file c.place name) (scope.global bs c.file name) (global_by_in n (look bs c.file name) (scope.follow bs c.file name) name room (follow_in n bs (length bs) false c.file name h)))

  bases_in : (all of : List Stated) → AllByRecursion (BaseIn n) (rule.bases_of bs cs bases all of)
  bases_in all [] = tt
  bases_in all (c ∷ of) = (judged_in n all c (rule.path bs cs bases c c.base) (path_in c c.base), bases_in all of)

  named_in : (all : List Stated) → AllByRecursion (BaseIn n) (rule.named bs cs bases all)
  named_in all = (tt, (omega (arith, room), (omega (arith, room), (omega (arith, room), (omega (arith, room), (omega (arith, room), (omega (arith, room), (omega (arith, room), (omega (arith, room), (omega (arith, room), (omega (arith, room), (omega (arith, room), (omega (arith, room), bases_in all all)))))))))))))

at_in : (n : ℕ) (os : List (Option ℕ)) (c b : ℕ) → AllByRecursion (BaseIn n) os → base_in os c ≡ Some b → b < n
at_in n [] zero b h e = absurd cc
at_in n [] (suc c) b h e = absurd cc
at_in n (o ∷ os) zero b h e = subst (λ (x : Option ℕ). BaseIn n x) e h.0
at_in n (o ∷ os) (suc c) b h e = at_in n os c b h.1 e

bases_many : (bs cs : List Binding) (bases : List (Option ℕ)) (all of : List Stated) → length (rule.bases_of bs cs bases all of) ≡ length of
bases_many bs cs bases all [] = refl
bases_many bs cs bases all (c ∷ of) = ap suc (bases_many bs cs bases all of)

pub named_many : (ms : List Named) → length (named_bases ms) ≡ 13 + length (classes (members ms))
named_many ms = length-append rule.builtin_bases (rule.bases_of (module_bindings ms) (body_bindings ms) [] (classes (members ms)) (classes (members ms))) ∙ ap (λ n. 13 + n) (bases_many (module_bindings ms) (body_bindings ms) [] (classes (members ms)) (classes (members ms)))

-- in all modules
pub named_are : (ms : List Named) (c b : ℕ) → base_in (named_bases ms) c ≡ Some b → b < length (named_bases ms)
named_are ms c b e =
    let n : ℕ = 13 + length (classes (members ms)) in
    let room : 13 + (0 + length (classes (members ms))) ≤ n = omega arith in
    let first : 13 ≤ n = omega arith in
    subst (λ (m : ℕ). b < m) (sym (named_many ms))
    (at_in n (named_bases ms) c b (named_in n first (module_bindings ms) (body_bindings ms) []
    (added_in n [] (bindings_from (module_names ms) none_before (members ms)) tt (bindings_in n (module_names ms) (members ms) none_before room))
    (added_in n [] (class_bindings_from none_before (members ms)) tt (class_bindings_in n (members ms) none_before room)) (classes (members ms))) e)
