-- The values of the constants of a program, and what has to be constant and is not.
use Rattle.std.specs.Prelude.{ℕ, zero, suc, Bool, true, false, if◌then◌else◌, List, [], ◌∷◌, ◌++◌, length, map, Option, Some, None}
use Rattle.rpy_tree.specs.declared.program.Const.{Const}
use Rattle.names_bound.specs.Declare.{class_here}
use Rattle.names_bound.specs.declared.fault.Fault.{Fault}
use Rattle.names_bound.specs.declared.fault.FaultKind.TheVariants as fault
use Rattle.names_found.specs.declared.step.SiteAt.{SiteAt}
use Rattle.names_rules.specs.Bindings.{Binding, Counts, none_before, count}
use Rattle.names_rules.specs.Least.{faults_if}
use Rattle.names_rules.specs.Locals.{locals}
use Rattle.names_rules.specs.Members as member
use Rattle.names_rules.specs.Members.{Body, Formal, What, Placed}
use Rattle.names_value.specs.Constants.{is_function}
use Rattle.names_value.specs.declared.machine.Root.{Root}
use Rattle.names_constants.specs.Stands.{name_part, bound_part, attr_part}
use Rattle.names_value.specs.Machine.{root_of}
use Rattle.names_value.specs.declared.machine.Prebuilt.{Prebuilt}
use Rattle.names_constants.specs.Value.{Piece, Kept, from_node, at_node, argument_faults, argument_roots, one_root}
use Rattle.names_constants.specs.Visit as visit

-- a constant of a module, or of the body of a class, with the sites that stand before it
pub record Constant : Type 0 where
  pub file : ℕ
  pub place : ℕ
  pub class : Option ℕ
  pub value : member.Value
  pub sites : List SiteAt

abbrev pub is_none : Option Const → Bool
is_none None = true
is_none (Some c) = false

-- where these are bound by modules and by the bodies of classes, and these are the bases of the classes
module _ (bs cs : List Binding) (bases : List (Option ℕ)) where
  -- ---- expressions and bodies, where constants have these values

  -- outside bodies no name is a local
  abbrev pub valued : List (Option Const) → ℕ → ℕ → member.Value → List SiteAt → Piece × Kept
  valued constants file place v sites =
      visit.expr Piece Kept (at_node (name_part bs cs bases file place []) (bound_part bs cs bases file place []) (attr_part bs cs bases file place []) true constants) v.of (from_node v.first sites)

  -- in bodies words alone have to be constant
  abbrev pub body_kept : List (Option Const) → ℕ → ℕ → List (List ℕ) → Body → List SiteAt → Kept
  body_kept constants file place own b sites =
      visit.block Piece Kept (at_node (name_part bs cs bases file place own) (bound_part bs cs bases file place own) (attr_part bs cs bases file place own) false constants) b.of (from_node b.first sites)

  -- ---- sites go on from member to member, whatever the values are

  abbrev pub after_default : ℕ → ℕ → Option member.Value → List SiteAt → List SiteAt
  after_default file place None sites = sites
  after_default file place (Some v) sites = (valued [] file place v sites).1.sites

  abbrev pub after_formals : ℕ → ℕ → List Formal → List SiteAt → List SiteAt
  after_formals file place [] sites = sites
  after_formals file place (p ∷ ps) sites = after_formals file place ps (after_default file place p.default sites)

  abbrev pub after_what : ℕ → ℕ → What → List SiteAt → List SiteAt
  after_what file place (member.Constant name v) sites = (valued [] file place v sites).1.sites
  after_what file place (member.Def name ps star b) sites = (body_kept [] file place (locals ps b.of) b (after_formals file place ps sites)).sites
  after_what file place other sites = sites

  abbrev pub after : Placed → List SiteAt → List SiteAt
  after p sites = after_what p.file p.place p.what sites

  abbrev pub after_members : List Placed → List SiteAt → List SiteAt
  after_members [] sites = sites
  after_members (p ∷ ps) sites = after_members ps (after p sites)

  -- ---- the constants, in the order of the text

  abbrev pub constant : Option ℕ → Placed → List SiteAt → What → List Constant
  constant class p sites (member.Constant name v) = record { file = p.file; place = p.place; class = class; value = v; sites = sites } ∷ []
  constant class p sites other = []

  abbrev pub constants_from : Counts → List SiteAt → List Placed → List Constant
  constants_from c sites [] = []
  constants_from c sites (p ∷ ps) = constant (class_here p.inside c.classes) p sites p.what ++ constants_from (count p.what c) (after p sites) ps

  abbrev pub constants : List SiteAt → List Placed → List Constant
  constants sites ps = constants_from none_before sites ps

  -- what a constant has and keeps, and its value
  abbrev pub of_constant : List (Option Const) → Constant → Piece × Kept
  of_constant values c = valued values c.file c.place c.value c.sites

  abbrev pub value_of : List (Option Const) → Constant → Option Const
  value_of values c = (of_constant values c).0.value

  abbrev pub all_values : List Constant → List (Option Const) → List (Option Const)
  all_values all values = map (value_of values) all

  -- the values that constants have by names of constants within names of constants, so many deep
  abbrev pub values_by : List Constant → ℕ → List (Option Const)
  values_by all zero = map (λ c. None) all
  values_by all (suc n) = all_values all (values_by all n)

  -- a constant that leads back to itself has no value, and no other leads deeper than there are constants
  abbrev pub values : List Constant → List (Option Const)
  values all = values_by all (length all)

  -- ---- what has to be constant and has no value

  abbrev pub expression_faults : Piece × Kept → List Fault
  expression_faults r = argument_faults r.1.arguments ++ faults_if (is_none r.0.value) r.0.node fault.BadConstant

  -- a function may not be a constant of a class
  abbrev pub class_faults : Option ℕ → Const → ℕ → List Fault
  class_faults None c node = []
  class_faults (Some class) c node = faults_if (is_function c) node fault.BadConstant

  abbrev pub settled_faults : Option ℕ → Option Const → Piece × Kept → List Fault
  settled_faults class None r = expression_faults r
  settled_faults class (Some c) r = class_faults class c r.0.node

  abbrev pub constant_faults : List (Option Const) → List Constant → List Fault
  constant_faults values [] = []
  constant_faults values (c ∷ all) = settled_faults c.class (value_of values c) (of_constant values c) ++ constant_faults values all

  -- defaults, and in bodies the steps of ranges and the first arguments of os.write
  abbrev pub default_faults : List (Option Const) → ℕ → ℕ → Option member.Value → List SiteAt → List Fault
  default_faults values file place None sites = []
  default_faults values file place (Some v) sites = expression_faults (valued values file place v sites)

  abbrev pub formals_faults : List (Option Const) → ℕ → ℕ → List Formal → List SiteAt → List Fault
  formals_faults values file place [] sites = []
  formals_faults values file place (p ∷ ps) sites = default_faults values file place p.default sites ++ formals_faults values file place ps (after_default file place p.default sites)

  abbrev pub what_faults : List (Option Const) → ℕ → ℕ → What → List SiteAt → List Fault
  what_faults values file place (member.Def name ps star b) sites =
      formals_faults values file place ps sites ++ argument_faults (body_kept values file place (locals ps b.of) b (after_formals file place ps sites)).arguments
  what_faults values file place other sites = []

  abbrev pub function_faults : List (Option Const) → List SiteAt → List Placed → List Fault
  function_faults values sites [] = []
  function_faults values sites (p ∷ ps) = what_faults values p.file p.place p.what sites ++ function_faults values (after p sites) ps

  -- all of them, where these sites stand before all members
  abbrev pub bad_constants : List SiteAt → List Placed → List Fault
  bad_constants sites ps = constant_faults (values (constants sites ps)) (constants sites ps) ++ function_faults (values (constants sites ps)) sites ps

  -- ---- the ends of constant expressions, with their values

  abbrev pub expression_roots : Piece × Kept → List Root
  expression_roots r = one_root (root_of r.0.node r.0.value)

  abbrev pub constant_roots : List (Option Const) → List Constant → List Root
  constant_roots values [] = []
  constant_roots values (c ∷ all) = expression_roots (of_constant values c) ++ constant_roots values all

  abbrev pub default_roots : List (Option Const) → ℕ → ℕ → Option member.Value → List SiteAt → List Root
  default_roots values file place None sites = []
  default_roots values file place (Some v) sites = expression_roots (valued values file place v sites)

  abbrev pub formals_roots : List (Option Const) → ℕ → ℕ → List Formal → List SiteAt → List Root
  formals_roots values file place [] sites = []
  formals_roots values file place (p ∷ ps) sites = default_roots values file place p.default sites ++ formals_roots values file place ps (after_default file place p.default sites)

  abbrev pub what_roots : List (Option Const) → ℕ → ℕ → What → List SiteAt → List Root
  what_roots values file place (member.Def name ps star b) sites =
      formals_roots values file place ps sites ++ argument_roots (body_kept values file place (locals ps b.of) b (after_formals file place ps sites)).arguments
  what_roots values file place other sites = []

  abbrev pub function_roots : List (Option Const) → List SiteAt → List Placed → List Root
  function_roots values sites [] = []
  function_roots values sites (p ∷ ps) = what_roots values p.file p.place p.what sites ++ function_roots values (after p sites) ps

  abbrev pub roots : List SiteAt → List Placed → List Root
  roots sites ps = constant_roots (values (constants sites ps)) (constants sites ps) ++ function_roots (values (constants sites ps)) sites ps

  -- ---- the lists and dicts of defaults

  abbrev pub default_made : List (Option Const) → ℕ → ℕ → Option member.Value → List SiteAt → List Prebuilt
  default_made values file place None sites = []
  default_made values file place (Some v) sites = (valued values file place v sites).1.made

  abbrev pub formals_made : List (Option Const) → ℕ → ℕ → List Formal → List SiteAt → List Prebuilt
  formals_made values file place [] sites = []
  formals_made values file place (p ∷ ps) sites = default_made values file place p.default sites ++ formals_made values file place ps (after_default file place p.default sites)

  abbrev pub what_made : List (Option Const) → ℕ → ℕ → What → List SiteAt → List Prebuilt
  what_made values file place (member.Def name ps star b) sites = formals_made values file place ps sites
  what_made values file place other sites = []

  abbrev pub function_made : List (Option Const) → List SiteAt → List Placed → List Prebuilt
  function_made values sites [] = []
  function_made values sites (p ∷ ps) = what_made values p.file p.place p.what sites ++ function_made values (after p sites) ps
