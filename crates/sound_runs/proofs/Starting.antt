-- A run begins in a sound state.
use Rattle.std.proofs.Common.{◌≡◌, ◌<◌, ℕ, zero, suc, ◌+◌, Bool, true, false, List, [], ◌∷◌, ◌++◌, length, Option, Some, None, refl, ap, sym, subst, ◌∙◌, arith, inr}
use Rattle.std.specs.Prelude.{map, slice_get, take, count_by, is_some, filter_map, option_map, if◌then◌else◌}
use Rattle.std.proofs.lemmas.List.Sums.{sum_by-cons}
use Rattle.rpy_tree.specs.declared.program.ClassInfo.{ClassInfo}
use Rattle.rpy_tree.specs.declared.program.Const.{Const}
use Rattle.rpy_tree.specs.declared.program.Site.{Site}
use Rattle.rpy_tree.specs.Value.{Value, Text, Ref, Object, Listed, Mapped, Instance, Heap}
use Rattle.rpy_meaning.specs.Tree.{Program}
use Rattle.rpy_meaning.specs.Operations.{builtin_classes, object_of, constant}
use Rattle.rpy_meaning.specs.Meaning.{exceptions_from, prebuilt}
use Rattle.flow_graph.specs.declared.graph.Graphs.{Graphs}
use Rattle.flow_meaning.specs.Meaning.{start}
use Rattle.flow_runs.specs.Good.{HasWholeKeys}
use Rattle.ann_element.specs.Sites.{leader}
use Rattle.ann_lattice.specs.Shape.{Shape, Any, Str, Lst}
use Rattle.ann_lattice.specs.Kind.{misfit, given}
use Rattle.ann_lattice.specs.Order as order
use Rattle.ann_lattice.specs.Order.{Below, is_key}
use Rattle.ann_lattice.specs.Assign.{Assignment, at, mark, Need}
use Rattle.ann_lattice.specs.Row as row
use Rattle.ann_rules.specs.Program.{Whole}
use Rattle.ann_rules.specs.Asks.{items_of, keys_of, to_items, to_keys, loads, defaults, tie, when, from_each}
use Rattle.ann_rules.specs.Rules.{pair_needs, contents}
use Rattle.sound_values.specs.Values.{Sort, ListOf, DictOf, InstanceOf, Unread, Is, text, list, clash}
use Rattle.sound_values.specs.Heaps.{IsOf, AllOf, PairsOf, ObjectIs, ObjectsAre, PrebuiltAre, IsTyped}
use Rattle.sound_values.proofs.Larger.{larger}
use Rattle.sound_rows.specs.Seen.{is_there}
use Rattle.sound_rows.specs.Sound.{AllMet, ArgumentsAre}
use Rattle.sound_rows.proofs.Containers.{met_append}
use Rattle.sound_rows.proofs.Constants.{constant_goes}
use Rattle.sound_runs.specs.Graphs.{IsSettled}
use Rattle.sound_runs.specs.States.{IsCalled, IsSound}
use Rattle.sound_runs.specs.Start as begin
use Rattle.sound_runs.specs.Start.{AllThere, ContentsThere, SiteAt, Begins, StartsAreSound, ProgramsAreNeverWrong}
use Rattle.sound_runs.proofs.Needs.{site_met, entry}
use Rattle.sound_runs.proofs.Whole.{run_ok}

-- ---- lists behind one another

behind : {A : Type 0} (xs ys : List A) (n : ℕ) → slice_get (xs ++ ys) (length xs + n) ≡ slice_get ys n
behind [] ys n = let e : 0 + n ≡ n = omega arith in ap (slice_get ys) e
behind (x ∷ xs) ys n = let e : suc (length xs) + n ≡ suc (length xs + n) = omega arith in ap (slice_get (x ∷ xs ++ ys)) e ∙ behind xs ys n

before : {A : Type 0} (xs ys : List A) (n : ℕ) (x : A) → slice_get xs n ≡ Some x → slice_get (xs ++ ys) n ≡ Some x
before [] ys n x e = cc
before (y ∷ xs) ys zero x e = e
before (y ∷ xs) ys (suc n) x e = before xs ys n x e

one_more : (n : ℕ) → 1 + n ≡ suc n
one_more n = omega arith

-- the sorts of the instances of builtin classes
instances_from : ℕ → ℕ → List Sort
instances_from c zero = []
instances_from c (suc n) = InstanceOf c ∷ instances_from (suc c) n

instance_at : (c n k : ℕ) → k < n → slice_get (instances_from c n) k ≡ Some (InstanceOf (c + k))
unfolding instances_from
instance_at c zero k lt = absurd (omega (arith, lt))
instance_at c (suc n) zero lt = let e : c ≡ c + 0 = omega arith in ap (λ x. Some (InstanceOf x)) e
instance_at c (suc n) (suc k) lt = let e : suc c + k ≡ c + suc k = omega arith in instance_at (suc c) n k (omega (arith, lt)) ∙ ap (λ x. Some (InstanceOf x)) e

instances_count : (c n : ℕ) → length (instances_from c n) ≡ n
unfolding instances_from
instances_count c zero = refl
instances_count c (suc n) = ap suc (instances_count (suc c) n)

empty_last : {A : Type 0} (ys : List A) (y : A) → slice_get (ys ++ y ∷ []) (length ys) ≡ Some y
empty_last [] y = refl
empty_last (x ∷ ys) y = empty_last ys y

at_end : {A : Type 0} (xs ys : List A) (y : A) → slice_get (xs ++ (ys ++ y ∷ [])) (length (xs ++ ys)) ≡ Some y
at_end [] ys y = empty_last ys y
at_end (x ∷ xs) ys y = at_end xs ys y

last_one : {A : Type 0} (xs ys : List A) (y : A) (n : ℕ) → n ≡ length (xs ++ ys) → slice_get (xs ++ (ys ++ y ∷ [])) n ≡ Some y
last_one xs ys y n e = ap (slice_get (xs ++ (ys ++ y ∷ []))) e ∙ at_end xs ys y

-- what is in conflict has each value
no_key : (k : List ClassInfo) (t : List ℕ) (sorts : List Sort) (y : Shape) (v : Value) → Below k t misfit y → Is k t sorts y v
no_key k t sorts _ v (order.clash m o r i j) = clash o r v

module _ (p : Whole) (a : Assignment) (q : Program) (gs : Graphs) (settled : IsSettled p a q gs) (begins : Begins p q) where
  abbrev Met : List Need → Type 0
  Met ns = AllMet p.tables.classes a ns

  split : (ms ns : List Need) → Met (ms ++ ns) → Met ms × Met ns
  split ms ns h = met_append p.tables.classes a ms ns h

  -- ---- the sorts of all objects

  sort_by : Bool → ℕ → Object → Sort
  sort_by true s (Listed vs) = ListOf s
  sort_by true s (Mapped pairs) = DictOf s
  sort_by true s (Instance c attributes) = Unread
  sort_by false s object = Unread

  sort_if_any : ℕ → Option Object → List Sort
  sort_if_any s None = []
  sort_if_any s (Some object) = sort_by (mark a (p.places.loaded s)) s object ∷ []

  site_sorts : ℕ → List (Option Object) → List Sort
  site_sorts s [] = []
  site_sorts s (o ∷ sites) = sort_if_any s o ++ site_sorts (suc s) sites

  -- the list of arguments stands last
  all_sorts : List Sort
  all_sorts = instances_from 0 builtin_classes ++ (site_sorts 0 q.sites ++ ListOf 0 ∷ [])

  nth_site : (s k : ℕ) (sites : List (Option Object)) (object : Object) → slice_get sites k ≡ Some (Some object)
      → slice_get (site_sorts s sites) (count_by is_some (take k sites)) ≡ Some (sort_by (mark a (p.places.loaded (k + s))) (k + s) object)
  unfolding site_sorts sort_if_any
  nth_site s k [] object e = cc
  nth_site s zero (None ∷ sites) object e = cc
  nth_site s zero (Some o ∷ sites) object e =
      let f : s ≡ 0 + s = omega arith in
      ap (λ x. Some (sort_by (mark a (p.places.loaded s)) s x)) (object_is o object e) ∙ ap (λ x. Some (sort_by (mark a (p.places.loaded x)) x object)) f
    where
      object_is : (o object : Object) → Some (Some o) ≡ Some (Some object) → o ≡ object
      object_is o object e = cc
  nth_site s (suc k) (None ∷ sites) object e =
      let f : k + suc s ≡ suc k + s = omega arith in nth_site (suc s) k sites object e ∙ ap (λ x. Some (sort_by (mark a (p.places.loaded x)) x object)) f
  nth_site s (suc k) (Some o ∷ sites) object e =
      let f : k + suc s ≡ suc k + s = omega arith in
      let n : count_by is_some (take (suc k) (Some o ∷ sites)) ≡ suc (count_by is_some (take k sites)) = sum_by-cons (λ x. if is_some x then 1 else 0) (Some o) (take k sites) ∙ one_more (count_by is_some (take k sites)) in
      ap (slice_get (sort_by (mark a (p.places.loaded s)) s o ∷ site_sorts (suc s) sites)) n ∙ nth_site (suc s) k sites object e ∙ ap (λ x. Some (sort_by (mark a (p.places.loaded x)) x object)) f

  sort_there : (s : ℕ) (object : Object) → slice_get q.sites s ≡ Some (Some object) → slice_get all_sorts (object_of q.sites s) ≡ Some (sort_by (mark a (p.places.loaded s)) s object)
  unfolding all_sorts
  sort_there s object e =
      let n = count_by is_some (take s q.sites) in
      let f : s + 0 ≡ s = omega arith in
      ap (λ k. slice_get (instances_from 0 builtin_classes ++ (site_sorts 0 q.sites ++ ListOf 0 ∷ [])) (k + n)) (sym (instances_count 0 builtin_classes))
      ∙ behind (instances_from 0 builtin_classes) (site_sorts 0 q.sites ++ ListOf 0 ∷ []) n
      ∙ before (site_sorts 0 q.sites) (ListOf 0 ∷ []) n (sort_by (mark a (p.places.loaded (s + 0))) (s + 0) object) (nth_site 0 s q.sites object e)
      ∙ ap (λ x. Some (sort_by (mark a (p.places.loaded x)) x object)) f

  -- what a site holds is a list or a dict
  never_instance : (s c : ℕ) (attributes : List (List ℕ × Value)) (o : Option Site) → SiteAt q.sites o (Some (Some (Instance c attributes))) → ⊥
  never_instance s c attributes None h = h
  never_instance s c attributes (Some site) h = by site.dict site.prebuilt h.0
    where
      by : (d : Bool) (pairs : Option (List (Const × Const))) → Some (Instance c attributes) ≡ option_map (begin.contents q.sites d) pairs → ⊥
      by d None e = cc
      by true (Some pairs) e = cc
      by false (Some pairs) e = cc

  prebuilt_is : PrebuiltAre p a q.sites all_sorts
  unfolding sort_by
  prebuilt_is s (Listed vs) e m = sort_there s (Listed vs) e ∙ ap (λ b. Some (sort_by b s (Listed vs))) m
  prebuilt_is s (Mapped pairs) e m = sort_there s (Mapped pairs) e ∙ ap (λ b. Some (sort_by b s (Mapped pairs))) m
  prebuilt_is s (Instance c attributes) e m = never_instance s c attributes (slice_get p.sites s) (subst (λ o. SiteAt q.sites (slice_get p.sites s) o) e (begins.sites s))

  -- ---- what they hold

  item_is : (s : ℕ) (c : Const) → is_there q.sites c ≡ true → Met (loads p c ++ to_items p a s (row.constant c)) → IsOf p a all_sorts (items_of p a s) (constant q.sites c)
  item_is s c e m =
      let ms = split (loads p c) (to_items p a s (row.constant c)) m in
      constant_goes p a q settled.sees all_sorts prebuilt_is c (items_of p a s) e ms.0 ms.1.0.0

  key_is : (s : ℕ) (c : Const) → is_there q.sites c ≡ true → Met (loads p c ++ to_keys p a s (row.constant c)) → IsOf p a all_sorts (keys_of p a s) (constant q.sites c)
  key_is s c e m =
      let ms = split (loads p c) (to_keys p a s (row.constant c)) m in
      by (is_key (row.constant c)) ms.1.0.0 ms.0
    where
      by : (b : Bool) → Below p.tables.classes a.same (given b (row.constant c)) (keys_of p a s) → Met (loads p c) → IsOf p a all_sorts (keys_of p a s) (constant q.sites c)
      by true b ns = constant_goes p a q settled.sees all_sorts prebuilt_is c (keys_of p a s) e ns b
      by false b ns = no_key p.tables.classes a.same all_sorts (keys_of p a s) (constant q.sites c) b

  -- ---- all objects

  items_are : (s : ℕ) (dict : Bool) (pairs : List (Const × Const)) → AllThere q.sites pairs → Met (from_each (pair_needs p a s dict) pairs)
      → AllOf p a all_sorts (items_of p a s) (map (λ (r : Const × Const). constant q.sites r.1) pairs)
  items_are s dict [] h m = tt
  items_are s dict (pair ∷ pairs) h m =
      let ms = split (pair_needs p a s dict pair) (from_each (pair_needs p a s dict) pairs) m in
      let ns = split (when dict (loads p pair.0 ++ to_keys p a s (row.constant pair.0))) (loads p pair.1 ++ to_items p a s (row.constant pair.1)) ms.0 in
      (item_is s pair.1 h.0.1 ns.1, items_are s dict pairs h.1 ms.1)

  pairs_are : (s : ℕ) (pairs : List (Const × Const)) → AllThere q.sites pairs → Met (from_each (pair_needs p a s true) pairs)
      → PairsOf p a all_sorts (keys_of p a s) (items_of p a s) (map (λ (r : Const × Const). (constant q.sites r.0, constant q.sites r.1)) pairs)
  pairs_are s [] h m = tt
  pairs_are s (pair ∷ pairs) h m =
      let ms = split (pair_needs p a s true pair) (from_each (pair_needs p a s true) pairs) m in
      let ns = split (loads p pair.0 ++ to_keys p a s (row.constant pair.0)) (loads p pair.1 ++ to_items p a s (row.constant pair.1)) ms.0 in
      ((key_is s pair.0 h.0.0 ns.0, item_is s pair.1 h.0.1 ns.1), pairs_are s pairs h.1 ms.1)

  -- a site that is read holds what is asked of it
  contents_are : (s : ℕ) (dict : Bool) (pairs : List (Const × Const)) → AllThere q.sites pairs → Met (from_each (pair_needs p a s dict) pairs)
      → ObjectIs p a all_sorts (sort_by true s (begin.contents q.sites dict pairs)) (begin.contents q.sites dict pairs)
  unfolding sort_by
  contents_are s false pairs h m = items_are s false pairs h m
  contents_are s true pairs h m = pairs_are s pairs h m

  unread : (s : ℕ) (dict : Bool) (pairs : List (Const × Const)) → HasWholeKeys (Some (begin.contents q.sites dict pairs))
      → ObjectIs p a all_sorts (sort_by false s (begin.contents q.sites dict pairs)) (begin.contents q.sites dict pairs)
  unfolding sort_by
  unread s false pairs h = tt
  unread s true pairs h = h

  object_by : (b : Bool) (s : ℕ) (dict : Bool) (pairs : List (Const × Const)) → HasWholeKeys (Some (begin.contents q.sites dict pairs)) → AllThere q.sites pairs → Met (when b (from_each (pair_needs p a s dict) pairs))
      → ObjectIs p a all_sorts (sort_by b s (begin.contents q.sites dict pairs)) (begin.contents q.sites dict pairs)
  object_by true s dict pairs keys h m = contents_are s dict pairs h m
  object_by false s dict pairs keys h m = unread s dict pairs keys

  object_is : (s : ℕ) (site : Site) → slice_get p.sites s ≡ Some site → (pairs : List (Const × Const)) → site.prebuilt ≡ Some pairs → HasWholeKeys (Some (begin.contents q.sites site.dict pairs))
      → ContentsThere q.sites site.prebuilt → ObjectIs p a all_sorts (sort_by (mark a (p.places.loaded s)) s (begin.contents q.sites site.dict pairs)) (begin.contents q.sites site.dict pairs)
  object_is s site e pairs f whole h =
      let m = site_met p a settled.met s site e in
      let keys = tie p a (p.places.key s) (p.places.key (leader a.same s)) in
      let ms = split (tie p a (p.places.item s) (p.places.item (leader a.same s))) (keys ++ when (mark a (p.places.loaded s)) (contents p a s site.dict site.prebuilt)) m in
      let ns = (split keys (when (mark a (p.places.loaded s)) (contents p a s site.dict site.prebuilt)) ms.1).1 in
      object_by (mark a (p.places.loaded s)) s site.dict pairs whole (subst (λ o. ContentsThere q.sites o) f h) (subst (λ o. Met (when (mark a (p.places.loaded s)) (contents p a s site.dict o))) f ns)

  -- an object of a site, where it has one
  SiteIs : ℕ → Option Object → Type 0
  SiteIs s None = Unit {0}
  SiteIs s (Some object) = ObjectIs p a all_sorts (sort_by (mark a (p.places.loaded s)) s object) object

  made_by : (s : ℕ) (site : Site) → slice_get p.sites s ≡ Some site → (o : Option (List (Const × Const))) → site.prebuilt ≡ o → HasWholeKeys (option_map (begin.contents q.sites site.dict) o)
      → ContentsThere q.sites site.prebuilt → SiteIs s (option_map (begin.contents q.sites site.dict) o)
  unfolding SiteIs
  made_by s site e None f whole h = tt
  made_by s site e (Some pairs) f whole h = object_is s site e pairs f whole h

  site_is : (s : ℕ) (o : Option Site) → slice_get p.sites s ≡ o → (object : Option Object) → HasWholeKeys object → SiteAt q.sites o (Some object) → SiteIs s object
  site_is s None e object whole h = absurd h
  site_is s (Some site) e object whole h = subst (λ o. SiteIs s o) (sym h.0) (made_by s site e site.prebuilt refl (subst HasWholeKeys h.0 whole) h.1)

  sites_from : (s : ℕ) (sites : List (Option Object)) (rest : List Sort) (heap : Heap) → ((k : ℕ) (o : Option Object) → slice_get sites k ≡ Some o → SiteIs (k + s) o) → ObjectsAre p a all_sorts rest heap
      → ObjectsAre p a all_sorts (site_sorts s sites ++ rest) (filter_map (λ object. object) sites ++ heap)
  unfolding site_sorts sort_if_any SiteIs
  sites_from s [] rest heap h i = i
  sites_from s (None ∷ sites) rest heap h i = sites_from (suc s) sites rest heap (λ k o e. let f : suc k + s ≡ k + suc s = omega arith in subst (λ x. SiteIs x o) f (h (suc k) o e)) i
  sites_from s (Some o ∷ sites) rest heap h i =
      let f : 0 + s ≡ s = omega arith in
      (subst (λ x. SiteIs x (Some o)) f (h 0 (Some o) refl), sites_from (suc s) sites rest heap (λ k o e. let f : suc k + s ≡ k + suc s = omega arith in subst (λ x. SiteIs x o) f (h (suc k) o e)) i)

  instances_are : (c n : ℕ) (rest : List Sort) (heap : Heap) → c + n ≡ builtin_classes → ObjectsAre p a all_sorts rest heap → ObjectsAre p a all_sorts (instances_from c n ++ rest) (exceptions_from c n ++ heap)
  unfolding instances_from
  instances_are c zero rest heap e i = i
  instances_are c (suc n) rest heap e i = ((refl, (inr (omega (arith, e)), λ name v f. cc)), instances_are (suc c) n rest heap (omega (arith, e)) i)

  arguments_are : (args : List (List ℕ)) → Below p.tables.classes a.same (Str Any) (items_of p a 0) → AllOf p a all_sorts (items_of p a 0) (map Text args)
  arguments_are [] b = tt
  arguments_are (t ∷ args) b = (larger p.tables.classes settled.sees.tree.tree a.same all_sorts (Str Any) (items_of p a 0) (Text t) b (text Any t tt), arguments_are args b)

  append_assoc : {A : Type 0} (xs ys zs : List A) → (xs ++ ys) ++ zs ≡ xs ++ (ys ++ zs)
  append_assoc [] ys zs = refl
  append_assoc (x ∷ xs) ys zs = ap (λ l. x ∷ l) (append_assoc xs ys zs)

  heap_is : (args : List (List ℕ)) → IsTyped p a q.sites all_sorts (prebuilt q ++ Listed (map Text args) ∷ [])
  unfolding all_sorts
  heap_is args = record {
    objects =
        subst (λ heap. ObjectsAre p a all_sorts all_sorts heap) (sym (append_assoc (exceptions_from 0 builtin_classes) (filter_map (λ object. object) q.sites) (Listed (map Text args) ∷ [])))
        (instances_are 0 builtin_classes (site_sorts 0 q.sites ++ ListOf 0 ∷ []) (filter_map (λ object. object) q.sites ++ Listed (map Text args) ∷ []) refl
        (sites_from 0 q.sites (ListOf 0 ∷ []) (Listed (map Text args) ∷ []) (λ k o e. let f : k + 0 ≡ k = omega arith in subst (λ x. SiteIs x o) (sym f) (site_is k (slice_get p.sites k) refl o (begins.keys k o e) (subst (λ r. SiteAt q.sites (slice_get p.sites k) r) e (begins.sites k))))
        (arguments_are args (entry p a settled.met).0.0, tt)));
    builtin = λ class lt. before (instances_from 0 builtin_classes) (site_sorts 0 q.sites ++ ListOf 0 ∷ []) class (InstanceOf class) (let f : 0 + class ≡ class = omega arith in instance_at 0 builtin_classes class lt ∙ ap (λ x. Some (InstanceOf x)) f);
    prebuilt = prebuilt_is;
  }

  -- ---- the start

  one_default : (f : ℕ) (ds : List (Option Const)) (v : Value) → length ds ≡ 1 → IsOf p a all_sorts (at a (p.places.param f 0)) v → ArgumentsAre p a q all_sorts f 0 ds (v ∷ [])
  one_default f [] v e h = tt
  one_default f (d ∷ []) v e h = (h, tt)
  one_default f (d ∷ e ∷ ds) v f' h = absurd (omega (arith, f'))

  filtered : (sites : List (Option Object)) (s : ℕ) → length (filter_map (λ object. object) sites) ≡ length (site_sorts s sites)
  unfolding site_sorts sort_if_any
  filtered [] s = refl
  filtered (None ∷ sites) s = filtered sites (suc s)
  filtered (Some o ∷ sites) s = ap suc (filtered sites (suc s))

  exceptions_count : (c n : ℕ) → length (exceptions_from c n) ≡ n
  exceptions_count c zero = refl
  exceptions_count c (suc n) = ap suc (exceptions_count (suc c) n)

  length_both : {A : Type 0} (xs ys : List A) → length (xs ++ ys) ≡ length xs + length ys
  length_both [] ys = let e : length ys ≡ 0 + length ys = omega arith in e
  length_both (x ∷ xs) ys = let r = length_both xs ys in omega (arith, r)

  arguments_sort : slice_get all_sorts (length (prebuilt q)) ≡ Some (ListOf 0)
  unfolding all_sorts
  arguments_sort =
      let e = length_both (exceptions_from 0 builtin_classes) (filter_map (λ object. object) q.sites) in
      let f = length_both (instances_from 0 builtin_classes) (site_sorts 0 q.sites) in
      let g = exceptions_count 0 builtin_classes in
      let h = instances_count 0 builtin_classes in
      let i = filtered q.sites 0 in
      last_one (instances_from 0 builtin_classes) (site_sorts 0 q.sites) (ListOf 0) (length (prebuilt q)) (omega (arith, e, f, g, h, i))

  pub start_ok : (args : List (List ℕ)) (n : ℕ) → IsSound p a q (start q args n)
  start_ok args n =
      let m = entry p a settled.met in
      let up : IsOf p a all_sorts (at a (p.places.param p.entry 0)) (Ref (length (prebuilt q))) =
      larger p.tables.classes settled.sees.tree.tree a.same all_sorts (Lst 0 false) (at a (p.places.param p.entry 0)) (Ref (length (prebuilt q))) m.1.0.0 (list 0 false (length (prebuilt q)) 0 arguments_sort refl) in (
        all_sorts,
        (
          heap_is args,
          (
            tt,
            subst (λ f. IsCalled p a q all_sorts f (Ref (length (prebuilt q)) ∷ []) None []) (sym settled.entry) (record {
              reached = m.1.1.0;
              arguments = one_default p.entry (defaults p p.entry) (Ref (length (prebuilt q))) begins.takes up;
              back = λ later keeps v h. h;
            }),
          ),
        ),
      )

pub starts_are_sound : StartsAreSound
starts_are_sound p a q gs settled begins args n = start_ok p a q gs settled begins args n

pub programs_are_never_wrong : ProgramsAreNeverWrong
programs_are_never_wrong p a q gs settled begins args n k told = run_ok p a q gs settled k (start q args n) (start_ok p a q gs settled begins args n) told
