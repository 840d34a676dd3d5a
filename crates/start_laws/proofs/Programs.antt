-- Memory represents the first objects in every program that is made of flow graphs.
use Rattle.std.proofs.Common.{◌≡◌, ◌<◌, ℕ, zero, suc, ◌+◌, ◌^◌, Bool, true, false, List, ◌∷◌, ◌++◌, length, map, slice_get, Option, Some, None, refl, sym, ap, ◌∙◌, subst, arith, length-append, []}
use Rattle.std.specs.Prelude.{◌-◌, ◌&&◌, nat_le, nat_lt, replicate, if◌then◌else◌}
use Rattle.std.proofs.lemmas.Bool.{ltb-true, leb-true}
use Rattle.std.proofs.lemmas.List.{length-map, map-append}
use Rattle.csub_tree.specs.State.{Static, Block}
use Rattle.csub_tree.specs.Layout.{static_block}
use Rattle.csub_tree.specs.declared.tree.CStatic.{CStatic}
use Rattle.class_desc.specs.Tables.{Tables}
use Rattle.ll_code.specs.Machine.{shapes_of}
use Rattle.ll_code.specs.declared.program.LlProgram.{LlProgram}
use Rattle.ll_helpers.specs.Helpers.{helpers}
use Rattle.ll_build.specs.declared.needs.Need.{Need}
use Rattle.rpy_meaning.specs.declared.row.Covers.{Covers}
use Rattle.rpy_meaning.specs.Meaning.{exceptions_from}
use Rattle.rpy_meaning.specs.Operations.{builtin_classes}
use Rattle.rpy_meaning.specs.Tree.{Program}
use Rattle.rtyper_layout.specs.declared.classes.Laid.{Laid}
use Rattle.rtyper_layout.specs.declared.layout.Layout.{Layout}
use Rattle.rtyper_layout.specs.Dicts.{type_in}
use Rattle.rtyper_layout.specs.Types.{word, laid_in}
use Rattle.rtyper_data.specs.declared.found.Found.{Found}
use Rattle.rtyper_op.specs.Prebuilt.{prebuilt}
use Rattle.rtyper_class.specs.Seen.{World, laid}
use Rattle.rtyper_class.specs.Vtables.{exceptions, exceptions_if, exceptions_to, exception, vtable, vtables}
use Rattle.rtyper_program.specs.Program.{IsLaid, all_graphs, found_first, pass, plain_graphs, world_behind}
use Rattle.rtyper_program.specs.Raises.{raises}
use Rattle.rtyper_program.specs.Seen.{Known}
use Rattle.rtyper_raising.specs.Raising.{raising_graphs}
use Rattle.growth_laws.specs.Growing.{Begins, Grows}
use Rattle.growth_laws.proofs.Fronts.{further, itself, stays}
use Rattle.growth_laws.proofs.Growing.{growth_is_one}
use Rattle.layout_laws.specs.Beginning.{AreBuiltin, class_if, exception_of, first_ghost, homes_from, unseen, use_for, uses_from}
use Rattle.layout_laws.specs.Knowing.{known_of, vtable_in, vtable_known}
use Rattle.layout_laws.specs.Layouts.{IsNumbered}
use Rattle.layout_laws.specs.Statics.{statics_of}
use Rattle.layout_laws.proofs.Chains.{chain}
use Rattle.layout_laws.proofs.Classes.{of_world}
use Rattle.layout_laws.proofs.Lines.{is_under}
use Rattle.layout_laws.proofs.Places.{get_there, get_within, no_some, same_some}
use Rattle.object_laws.specs.Done.{HasLayout}
use Rattle.object_laws.specs.Ghost.{Use, Stays, Whole, use_of}
use Rattle.object_laws.specs.Known.{Known as Seen, vtable_block}
use Rattle.object_laws.specs.Represents.{Represents, is_settled}
use Rattle.program_asks.specs.Standing.{first_in, last_in, world_in}
use Rattle.program_asks.proofs.Passes.{functions_grow, helpers_grow, plain_to_all}
use Rattle.program_asks.proofs.WritingBlocks.{programs_only_ask}
use Rattle.rtyped_laws.specs.Programs.{layout_for}
use Rattle.rtyped_laws.proofs.Programs.{layouts_are_had_by_programs, memory_begins_in_programs, worlds_are_of_programs}
use Rattle.start_laws.specs.Begins.{AreSites, MemoryBeginsWithSites, built_in, seen_at}
use Rattle.start_laws.specs.Begins as start
use Rattle.start_laws.specs.Constants.{AreConstants}
use Rattle.start_laws.specs.Knowing.{items_of, keys_of, static_if, static_of}
use Rattle.start_laws.proofs.Beginning.{begins}
use Rattle.start_laws.proofs.Building.{Built, built_more, get_first, get_map}
use Rattle.start_laws.proofs.Homes.{there}
use Rattle.start_laws.proofs.Listing.{HasUses, listed_built}
use Rattle.start_laws.proofs.Mapping.{mapped_built}
use Rattle.start_laws.proofs.Rounds.{Makes, prebuilt_uses}
use Rattle.start_laws.proofs.Typed.{dicts_typed, lists_typed}

-- ---- what a program was written with

pass_grows : (known : Known) (classes : Tables) (layout : Layout) (needs : List Need) (caught : List Covers) (count : ℕ)
    → Grows (prebuilt (world_behind known classes layout (helpers layout.structs needs)).around known.program.sites known.annotation.same (found_first known (world_behind known classes layout (helpers layout.structs needs)) (helpers layout.structs needs) needs caught))
    (pass known classes layout needs caught count).1
unfolding pass all_graphs plain_graphs
pass_grows known classes layout needs caught count =
    let helped = helpers layout.structs needs in
    let world = world_behind known classes layout helped in
    let first = found_first known world helped needs caught in
    let only = programs_only_ask known world in
    let made = prebuilt world.around known.program.sites known.annotation.same first in
    let raised = (raising_graphs 0 helped.graphs made).1 in
    growth_is_one made raised (pass known classes layout needs caught count).1 (helpers_grow 0 helped.graphs made)
    (growth_is_one raised _ (pass known classes layout needs caught count).1 (functions_grow known world only.functions 0 known.graphs (raising_graphs 0 helped.graphs made)) (plain_to_all known world only helped.graphs first count))

pass_statics : (known : Known) (classes : Tables) (layout : Layout) (needs : List Need) (caught : List Covers) (count : ℕ) → (pass known classes layout needs caught count).0.statics ≡ (pass known classes layout needs caught count).1.statics
unfolding pass
pass_statics known classes layout needs caught count = refl

-- ---- the uses of the first statics

uses_both : (world : World) (n : ℕ) (xs ys : List Block) → uses_from world n (xs ++ ys) ≡ uses_from world n xs ++ uses_from world (n + length xs) ys
uses_both world n [] ys = ap (λ k. uses_from world k ys) (let z : n ≡ n + 0 = omega arith in z)
uses_both world n (x ∷ xs) ys = ap (λ us. use_for (exception_of world n) x ∷ us) (uses_both world (n + 1) xs ys ∙ ap (λ k. uses_from world (n + 1) xs ++ uses_from world k ys) (let z : n + 1 + length xs ≡ n + suc (length xs) = omega arith in z))

uses_long : (world : World) (n : ℕ) (xs : List Block) → length (uses_from world n xs) ≡ length xs
uses_long world n [] = refl
uses_long world n (x ∷ xs) = ap suc (uses_long world (n + 1) xs)

uses_at : (world : World) (n i : ℕ) (xs : List Block) (x : Block) → slice_get xs i ≡ Some x → slice_get (uses_from world n xs) i ≡ Some (use_for (exception_of world (n + i)) x)
uses_at world n i [] x h = absurd (no_some h)
uses_at world n zero (y ∷ xs) x h = ap (λ k. Some (use_for (exception_of world k) y)) (let z : n ≡ n + 0 = omega arith in z) ∙ ap (λ b. Some (use_for (exception_of world (n + 0)) b)) (same_some h)
uses_at world n (suc i) (y ∷ xs) x h = uses_at world (n + 1) i xs x h ∙ ap (λ k. Some (use_for (exception_of world k) x)) (let z : n + 1 + i ≡ n + suc i = omega arith in z)

no_exception : (o : Option ℕ) (a b : Block) → use_for o a ≡ Stays b → o ≡ None
no_exception None a b h = refl
no_exception (Some class) a b h = absurd (let q : Whole class ≡ Stays b = h in cc)

count_to : (world : World) (n : ℕ) → length (exceptions_to world n) ≡ n
count_to world zero = refl
count_to world (suc n) = length-append (exceptions_to world n) (exception world n ∷ []) ∙ omega (arith, count_to world n)

homes_long : (world : World) (class n : ℕ) → length (homes_from world class n) ≡ n
homes_long world class zero = refl
homes_long world class (suc n) = ap suc (homes_long world (suc class) n)

exception_at : (world : World) (s class : ℕ) → exception_of world s ≡ Some class → (l : Laid) × (laid world class ≡ Some l) × (s ≡ world.first_exception + class) × (class < builtin_classes)
exception_at world s class h = by (nat_le world.first_exception s) (nat_lt (s - world.first_exception) builtin_classes) refl refl (laid world (s - world.first_exception)) refl h
  where
    by : (b c : Bool) → nat_le world.first_exception s ≡ b → nat_lt (s - world.first_exception) builtin_classes ≡ c → (o : Option Laid) → laid world (s - world.first_exception) ≡ o
        → (if b && c then class_if (s - world.first_exception) o else None) ≡ Some class → (l : Laid) × (laid world class ≡ Some l) × (s ≡ world.first_exception + class) × (class < builtin_classes)
    by true true e f None is h = absurd (no_some h)
    by true true e f (Some l) is h =
        let same : s - world.first_exception ≡ class = same_some h in
        (l, ap (laid world) (sym same) ∙ is, (let z = leb-true world.first_exception s e in omega (arith, z, same)), (let z = ltb-true (s - world.first_exception) builtin_classes f in omega (arith, z, same)))
    by true false e f o is h = absurd (no_some h)
    by false c e f o is h = absurd (no_some h)

-- ---- a program

module _ (known : Known) (classes : Tables) (p : LlProgram) (r : IsLaid known classes p) (meant : Program) (steps : ℕ)
    (numbered : IsNumbered (world_in known classes (layout_for known classes) p r)) (small : length (layout_for known classes).structs < 2 ^ 64) (few : length p.statics < 2 ^ 64)
    (builtin : AreBuiltin (world_in known classes (layout_for known classes) p r)) (are : AreSites known.program.sites meant.sites)
    (constants : AreConstants (world_in known classes (layout_for known classes) p r).around (seen_at known classes p r meant) known.program.sites known.annotation.same steps) (less : steps < 2 ^ 62) where
  abbrev layout : Layout
  layout = layout_for known classes

  abbrev world : World
  world = world_in known classes layout p r

  abbrev seen : Seen
  seen = seen_at known classes p r meant

  abbrev first : Found
  first = first_in known classes layout p r

  abbrev built : Found
  built = built_in known classes p r

  has : HasLayout p layout
  has = layouts_are_had_by_programs known classes p r small

  -- the statics of the program begin with those that were built, and these with the first ones
  statics_are : p.statics ≡ (last_in known classes layout p r).statics
  statics_are = ap (λ (q : LlProgram). q.statics) r.written ∙ pass_statics known classes layout r.needs r.caught r.count

  built_begins : Begins built.statics p.statics
  built_begins = subst (λ xs. Begins built.statics xs) (sym statics_are) (pass_grows known classes layout r.needs r.caught r.count).statics

  first_begins : Begins first.statics built.statics
  first_begins = ((programs_only_ask known world).constants first).statics

  whole : Begins first.statics p.statics
  whole = further first.statics built.statics p.statics first_begins built_begins

  abbrev blocks : List CStatic → List Block
  blocks statics = map (static_block (shapes_of p.structs)) statics

  abbrev begin : List Use
  begin = uses_from world 0 (blocks first.statics)

  begin_long : length begin ≡ length first.statics
  begin_long = uses_long world 0 (blocks first.statics) ∙ length-map first.statics (static_block (shapes_of p.structs))

  -- what is said of the first statics is said of those of the program
  prefix : (s : ℕ) → s < length first.statics → slice_get (uses_from world 0 (statics_of p)) s ≡ slice_get begin s
  prefix s lt =
      ap (λ xs. slice_get (uses_from world 0 (blocks xs)) s) (sym whole.1) ∙ ap (λ xs. slice_get (uses_from world 0 xs) s) (map-append (static_block (shapes_of p.structs)) first.statics whole.0)
      ∙ ap (λ us. slice_get us s) (uses_both world 0 (blocks first.statics) (blocks whole.0)) ∙ get_first begin _ s (let z = begin_long in omega (arith, z, lt))

  -- ---- strings and tuples are no exceptions

  plainly : Represents layout (known_of world known.program known.annotation.reached meant (items_of layout known.annotation) (keys_of layout known.annotation) (λ s. None) (λ s. None)) (first_ghost world p (length (there meant.sites))) (exceptions_from 0 builtin_classes ++ there meant.sites) steps [] (statics_of p)
  plainly = memory_begins_in_programs known classes p r meant (items_of layout known.annotation) (keys_of layout known.annotation) (λ s. None) (there meant.sites) steps numbered small few builtin (λ s block h. absurd (no_some h)) less

  settled_none : (s : ℕ) (block : Block) → slice_get (statics_of p) s ≡ Some block → is_settled layout block.kind ≡ true → exception_of world s ≡ None
  settled_none s block h e = no_exception (exception_of world s) block block (same_some (sym (uses_at world 0 s (statics_of p) block h ∙ ap (λ k. Some (use_for (exception_of world k) block)) (let z : 0 + s ≡ s = omega arith in z)) ∙ plainly.settled (Static s) block h e))

  record KnownStatic (s : ℕ) (block : Block) : Type 0 where
    static : CStatic
    at : slice_get p.statics s ≡ Some static
    kind : is_settled layout static.kind ≡ true
    is : static_block (shapes_of p.structs) static ≡ block

  known_static : (s : ℕ) (block : Block) → static_of p layout s ≡ Some block → KnownStatic s block
  known_static s block h = by (slice_get p.statics s) refl h
    where
      one : (static : CStatic) → slice_get p.statics s ≡ Some static → (b : Bool) → is_settled layout static.kind ≡ b → (if b then Some (static_block (shapes_of p.structs) static) else None) ≡ Some block → KnownStatic s block
      one static at true e h = record { static = static; at = at; kind = e; is = same_some h }
      one static at false e h = absurd (no_some h)

      by : (o : Option CStatic) → slice_get p.statics s ≡ o → static_if p layout o ≡ Some block → KnownStatic s block
      by None at h = absurd (no_some h)
      by (Some static) at h = one static at (is_settled layout static.kind) refl h

  -- nothing is known of sites
  abbrev base : Seen
  base = known_of world known.program known.annotation.reached meant (items_of layout known.annotation) (keys_of layout known.annotation) (static_of p layout) (λ s. None)

  was : Represents layout base (first_ghost world p (length (there meant.sites))) (exceptions_from 0 builtin_classes ++ there meant.sites) steps [] (statics_of p)
  was = memory_begins_in_programs known classes p r meant (items_of layout known.annotation) (keys_of layout known.annotation) (static_of p layout) (there meant.sites) steps numbered small few builtin
      (λ s block h. let it = known_static s block h in
      let at = get_map (static_block (shapes_of p.structs)) p.statics s it.static it.at ∙ ap Some it.is in
      (at, settled_none s block at (ap (λ (b : Block). is_settled layout b.kind) (sym it.is) ∙ it.kind)))
      less

  -- ---- the start

  in_program : (s : ℕ) (static : CStatic) → slice_get first.statics s ≡ Some static → slice_get (statics_of p) s ≡ Some (static_block (shapes_of p.structs) static)
  in_program s static h = get_map (static_block (shapes_of p.structs)) p.statics s static (stays first.statics p.statics s static whole h)

  first_built : Built p world.around seen known.program.sites known.annotation.same has begin first.statics [] begin
  first_built = record {
    long = begin_long;
    front = itself begin;
    staying = λ s static block h u. same_some (sym (in_program s static h) ∙ was.stays (Static s) block (prefix s (get_within first.statics s static h) ∙ u));
    settled = λ s static h e. sym (prefix s (get_within first.statics s static h)) ∙ was.settled (Static s) (static_block (shapes_of p.structs) static) (in_program s static h) e;
    each = λ site number h. absurd (no_some h);
  }

  makes : Makes p world.around seen known.program.sites known.annotation.same has begin
  makes = record {
    lists = λ site n pairs found old it is ready. (let of = constants.lists site n pairs it is in
        listed_built p world.around seen known.program.sites known.annotation.same has begin site n steps pairs found old it is ready of (lists_typed known.program classes.classes known.annotation (raises known) small n of.struct));
    dicts = λ site n pairs m found old it is ready at. (let typed = dicts_typed known.program classes.classes known.annotation (raises known) small n m at in
        mapped_built p world.around seen known.program.sites known.annotation.same has begin site n pairs m found old it is ready at (constants.dicts site n pairs m it is at) typed.dict
        (typed.key ∙ ap (λ k. type_in layout (keys_of layout known.annotation k)) (sym typed.dict)) (typed.value ∙ ap (λ k. type_in layout (items_of layout known.annotation k)) (sym typed.dict)));
  }

  uses : HasUses p world.around seen known.program.sites known.annotation.same has begin built
  uses = prebuilt_uses p world.around seen known.program.sites known.annotation.same has begin makes first (begin, first_built)

  all_built : (more : List Use) × Built p world.around seen known.program.sites known.annotation.same has begin p.statics built.prebuilt more
  all_built = (_, built_more p world.around seen known.program.sites known.annotation.same has built_begins uses.1)

  first_use : (s : ℕ) (u : Use) → s < length first.statics → slice_get (uses_from world 0 (statics_of p)) s ≡ Some u → slice_get all_built.0 s ≡ Some u
  first_use s u lt h = stays begin all_built.0 s u all_built.1.front (sym (prefix s lt) ∙ h)

  count_first : length first.statics ≡ world.first_vtable + length layout.order + length (exceptions world)
  count_first =
      let helped = helpers layout.structs r.needs in
      let a = length-append (helped.statics ++ vtables world known.program known.annotation.reached) (exceptions world) in
      let b = length-append helped.statics (vtables world known.program known.annotation.reached) in
      let c : length (vtables world known.program known.annotation.reached) ≡ length layout.order = length-map layout.order (vtable world known.program known.annotation.reached) in
      omega (arith, a, b, c)

  -- where a builtin class has structs there are all the exceptions
  count_exceptions : (class : ℕ) (l : Laid) → class < builtin_classes → laid world class ≡ Some l → length (exceptions world) ≡ 13
  count_exceptions class l lt h =
      let of = of_world known.program known.annotation (raises known) world (worlds_are_of_programs known classes p r) numbered in
      let top = chain world.classes.classes world.attributes layout of 0 class l (is_under world.classes.classes class 0 (builtin.below class lt)) h in
      ap (λ o. length (exceptions_if world o)) top.is ∙ count_to world 13

  heads : (i s : ℕ) → i < builtin_classes → slice_get (uses_from world 0 (statics_of p)) s ≡ Some (Whole i) → slice_get all_built.0 s ≡ Some (Whole i)
  heads i s lt h =
      let within = get_within (uses_from world 0 (statics_of p)) s (Whole i) h in
      let there = get_there (statics_of p) s (let z = uses_long world 0 (statics_of p) in omega (arith, z, within)) in
      let is_used = uses_at world 0 s (statics_of p) there.0 there.1 ∙ ap (λ k. Some (use_for (exception_of world k) there.0)) (let z : 0 + s ≡ s = omega arith in z) in
      by there.0 (exception_of world s) refl (same_some (sym is_used ∙ h))
    where
      by : (block : Block) (o : Option ℕ) → exception_of world s ≡ o → use_for o block ≡ Whole i → slice_get all_built.0 s ≡ Some (Whole i)
      by block None e k = absurd (let q : Stays block ≡ Whole i = k in cc)
      by block (Some class) e k =
          let it = exception_at world s class e in
          let at : s ≡ world.first_exception + class = it.2 in
          first_use s (Whole i) (omega (arith, at, it.3, count_first, count_exceptions class it.0 it.3 it.1)) h

  vtables_are : (class : ℕ) (l : Laid) → laid_in layout.classes class ≡ Some l
      → slice_get all_built.0 (word (world.first_vtable + l.place)) ≡ Some (Stays (vtable_block l.vtable (vtable_known world known.program known.annotation.reached class)))
  vtables_are class l h =
      let of = of_world known.program known.annotation (raises known) world (worlds_are_of_programs known classes p r) numbered in
      let within : l.place < length layout.order = get_within layout.order l.place class (of.order class l h) in
      let at : (vtable_known world known.program known.annotation.reached class).at ≡ Static (word (world.first_vtable + l.place)) = ap (vtable_in world) h in
      first_use (word (world.first_vtable + l.place)) _ (omega (arith, within, count_first)) (sym (ap (use_of (first_ghost world p (length (there meant.sites)))) at) ∙ was.vtables class l h)

  result : start.Begins p world.around seen steps
  result =
      begins p world.around base known.program.sites known.annotation.same has built.prebuilt all_built.0 begin (homes_from world 0 builtin_classes) (first_ghost world p (length (there meant.sites))) steps
      all_built.1 are (λ i lt. sym (get_first (homes_from world 0 builtin_classes) (replicate (length (there meant.sites)) unseen) i (let z = homes_long world 0 builtin_classes in omega (arith, z, lt)))) (homes_long world 0 builtin_classes) was constants
      refl heads (λ class l h. (word (world.first_vtable + l.place), ap (vtable_in world) h, vtables_are class l h))
      (λ s block h. let it = known_static s block h in all_built.1.settled s it.static it.at it.kind ∙ ap (λ b. Some (Stays b)) it.is)

pub memory_begins_with_sites : MemoryBeginsWithSites
memory_begins_with_sites known classes p r meant steps numbered small few builtin are constants less = result known classes p r meant steps numbered small few builtin are constants less
