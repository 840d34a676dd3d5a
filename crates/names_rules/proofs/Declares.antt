-- The attributes and methods that the code has are those that members declare.
use Rattle.std.proofs.Common.{◌≡◌, ℕ, ◌+◌, List, [], ◌∷◌, ◌++◌, append_assoc, append-nil, Bool, true, false, map, length, Option, Some, None, sym, ap, ◌∙◌, refl, cond, subst}
use Rattle.std.specs.Prelude.{not, nat_eq, ◌&&◌, ◌||◌}
use Rattle.std.specs.List.{AllByRecursion, list_any}
use Rattle.std.specs.Str.{bytes_eq}
use Rattle.rpy_nodes.specs.Listing as listing
use Rattle.rpy_nodes.specs.Names.{number}
use Rattle.rpy_nodes.specs.declared.event.Event.{Event}
use Rattle.rpy_nodes.specs.declared.listing.Named.{Named}
use Rattle.rpy_nodes.specs.declared.unit.Parameter.{Parameter}
use Rattle.names_bound.specs.Clash as old_clash
use Rattle.names_bound.specs.Declare as old
use Rattle.names_bound.specs.Imports as old_imports
use Rattle.names_bound.specs.Table.{Entries, look, fresh, is_fresh}
use Rattle.names_bound.specs.declared.declare.Declared.{Declared}
use Rattle.names_bound.specs.declared.declare.Spot.{Spot}
use Rattle.names_bound.specs.declared.imports.Source.{Source}
use Rattle.names_bound.specs.declared.stand.Stand.{Stand}
use Rattle.names_bound.specs.declared.stand.Stand.TheVariants as stand
use Rattle.names_bound.specs.declared.table.Binding.{Binding as Old}
use Rattle.names_bound.specs.declared.table.Bound.TheVariants as old_bound
use Rattle.names_bound.specs.declared.table.Key.{Key}
use Rattle.names_rules.specs.Bindings.{Counts, none_before, count}
use Rattle.names_rules.specs.Clashes.{Declares, name_of, stored, in_front, stores, attributes_of, methods_of, in_class, declared_from, attributes, methods}
use Rattle.names_rules.specs.Events.{Names, act_of, events}
use Rattle.names_rules.specs.Listed.{numbers, module_names, names_of, listed, says, parameter, body_events}
use Rattle.names_rules.specs.Locals.{Has, IsKnown}
use Rattle.names_rules.specs.Members as member
use Rattle.names_rules.specs.Members.{Formal, Body, What, Placed, members, params_said, value_said}
use Rattle.names_rules.specs.Numbering.{next, said, said_by}
use Rattle.names_rules.specs.Order.{Item, Items, Name, BindAttr, expr, block}
use Rattle.names_rules.specs.Words.{words}
use Rattle.names_rules.proofs.Bindings as table
use Rattle.names_rules.proofs.Imports.{modules_stand}
use Rattle.names_rules.proofs.Injective.{compared, eq_yes}
use Rattle.names_rules.proofs.Known.{members_known, all_both}
use Rattle.names_rules.proofs.Locals.{all_first, all_rest}
use Rattle.names_rules.proofs.Modules.{listing_is}
use Rattle.names_rules.proofs.Words.{texts, table_begins}

-- ---- truth

pub or_assoc : (a b c : Bool) → (a || (b || c)) ≡ ((a || b) || c)
or_assoc true b c = refl
or_assoc false b c = refl

pub or_false : (a : Bool) → (a || false) ≡ a
or_false true = refl
or_false false = refl

or_again : (a r b : Bool) → b ≡ a → (a || r) ≡ ((a || r) || b)
or_again true r b e = refl
or_again false r b e = sym (or_false r) ∙ ap (λ x. r || x) (sym e)

and_left : (a b : Bool) → (a && b) ≡ true → a ≡ true
and_left true b h = refl
and_left false b h = absurd cc

and_right : (a b : Bool) → (a && b) ≡ true → b ≡ true
and_right true b h = h
and_right false b h = absurd cc

pub any_end : {A : Type 0} (p : A → Bool) (xs : List A) (x : A) → list_any p (xs ++ x ∷ []) ≡ (list_any p xs || p x)
any_end p [] x = or_false (p x)
any_end p (y ∷ ys) x = ap (λ b. p y || b) (any_end p ys x) ∙ or_assoc (p y) (list_any p ys) (p x)

-- ---- tables of what is declared

abbrev pub Test : Type 0
Test = ℕ → ℕ → Bool

abbrev pub test_key : Test → Key → Bool
test_key p k = p k.scope k.name

keys_end : (p : Test) (es : Entries) (e : Key × Old) → list_any (test_key p) (old_clash.keys (es ++ e ∷ [])) ≡ (list_any (test_key p) (old_clash.keys es) || p e.0.scope e.0.name)
keys_end p [] e = or_false (p e.0.scope e.0.name)
keys_end p (x ∷ es) e = ap (λ b. p x.0.scope x.0.name || b) (keys_end p es e) ∙ or_assoc (p x.0.scope x.0.name) (list_any (test_key p) (old_clash.keys es)) (p e.0.scope e.0.name)

present_by : (p : Test) (class n : ℕ) (e : Key × Old) (o : Option Old) (r t : Bool) → (nat_eq class e.0.scope && nat_eq n e.0.name) ≡ t → (fresh o ≡ false → r ≡ (r || p class n)) → fresh (cond t (Some e.1) o) ≡ false
    → (p e.0.scope e.0.name || r) ≡ ((p e.0.scope e.0.name || r) || p class n)
present_by p class n e o r true t rest h = or_again (p e.0.scope e.0.name) r (p class n) (λ j. p (eq_yes class e.0.scope (and_left (nat_eq class e.0.scope) (nat_eq n e.0.name) t) j) (eq_yes n e.0.name (and_right (nat_eq class e.0.scope) (nat_eq n e.0.name) t) j))
present_by p class n e o r false t rest h = ap (λ x. p e.0.scope e.0.name || x) (rest h) ∙ or_assoc (p e.0.scope e.0.name) r (p class n)

-- a name that is there already is there once more
present : (p : Test) (class n : ℕ) (es : Entries) → is_fresh es class n ≡ false → list_any (test_key p) (old_clash.keys es) ≡ (list_any (test_key p) (old_clash.keys es) || p class n)
present p class n [] h = absurd cc
present p class n (e ∷ es) h = present_by p class n e (look es class n) (list_any (test_key p) (old_clash.keys es)) (nat_eq class e.0.scope && nat_eq n e.0.name) refl (present p class n es) h

fresh_by : (t : Bool) (e : Old) (o : Option Old) (r : Bool) → fresh o ≡ not r → fresh (cond t (Some e) o) ≡ not (t || r)
fresh_by true e o r h = refl
fresh_by false e o r h = h

pub fresh_any : (es : Entries) (class n : ℕ) → is_fresh es class n ≡ not (list_any (test_key (λ s m. nat_eq class s && nat_eq n m)) (old_clash.keys es))
fresh_any [] class n = refl
fresh_any (e ∷ es) class n = fresh_by (nat_eq class e.0.scope && nat_eq n e.0.name) e.1 (look es class n) (list_any (test_key (λ s m. nat_eq class s && nat_eq n m)) (old_clash.keys es)) (fresh_any es class n)

module _ (names : Names) where
  abbrev pub test_in : Test → Declares → Bool
  test_in p d = p d.class (number names d.name)

  -- the table has these, each of them once
  abbrev pub Alike : Entries → List Declares → Type 0
  Alike es ds = (p : Test) → list_any (test_key p) (old_clash.keys es) ≡ list_any (test_in p) ds

  declared_by : (b : Bool) (es : Entries) (ds : List Declares) (class : ℕ) (name : List ℕ) (o : Old) → is_fresh es class (number names name) ≡ b → Alike es ds
      → Alike (cond b (es ++ (record { scope = class; name = number names name }, o) ∷ []) es) (ds ++ record { class = class; name = name } ∷ [])
  declared_by true es ds class name o f h = λ p. keys_end p es (record { scope = class; name = number names name }, o) ∙ ap (λ b. b || p class (number names name)) (h p) ∙ sym (any_end (test_in p) ds (record { class = class; name = name }))
  declared_by false es ds class name o f h = λ p. present p class (number names name) es f ∙ ap (λ b. b || p class (number names name)) (h p) ∙ sym (any_end (test_in p) ds (record { class = class; name = name }))

  declared_one : (es : Entries) (ds : List Declares) (class : ℕ) (name : List ℕ) → Alike es ds → Alike (old.declare class (number names name) es) (ds ++ record { class = class; name = name } ∷ [])
  declared_one es ds class name h = declared_by (is_fresh es class (number names name)) es ds class name (old.binding 0 (old_bound.Is stand.Nothing)) refl h

  same_list : (es : Entries) (ds es2 : List Declares) → ds ≡ es2 → Alike es ds → Alike es es2
  same_list es ds more e h = subst (λ (xs : List Declares). Alike es xs) e h

  attribute_alike : (o : Option ℕ) (name : List ℕ) (d : Declared) (ds : List Declares) → Alike d.attributes ds → Alike (old.attribute_in o (number names name) d).attributes (ds ++ in_class o (name ∷ []))
  attribute_alike None name d ds h = same_list d.attributes ds (ds ++ []) (sym (append-nil ds)) h
  attribute_alike (Some class) name d ds h = declared_one d.attributes ds class name h

  method_alike : (o : Option ℕ) (name : List ℕ) (d : Declared) (ds : List Declares) → Alike d.methods ds → Alike (old.method_in o (number names name) d).methods (ds ++ in_class o (name ∷ []))
  method_alike None name d ds h = same_list d.methods ds (ds ++ []) (sym (append-nil ds)) h
  method_alike (Some class) name d ds h = declared_one d.methods ds class name h

  -- ---- what a method stores

  abbrev numbered : Option (List ℕ) → Option ℕ
  numbered None = None
  numbered (Some name) = Some (number names name)

  abbrev HasIt : Option (List ℕ) → Type 0
  HasIt None = Unit {0}
  HasIt (Some name) = Has names name

  name_same : (i : Item) → old.name_in (act_of names i) ≡ numbered (name_of i)
  name_same (Name name) = refl
  name_same i = refl

  stored_cond : (b : Bool) (x : List ℕ) → cond b (Some (number names x)) None ≡ numbered (cond b (Some x) None)
  stored_cond true x = refl
  stored_cond false x = refl

  stored_same : (first : List ℕ) (last : Option (List ℕ)) (i : Item) → HasIt last → old.stored (number names first) (numbered last) (act_of names i) ≡ numbered (stored first last i)
  stored_same first None i h = refl
  stored_same first (Some name) (BindAttr x) h = ap (λ b. cond b (Some (number names x)) None) (compared names name first h) ∙ stored_cond (bytes_eq name first) x
  stored_same first (Some name) i h = refl

  name_has : (i : Item) → AllByRecursion (Has names) (said_by i) → HasIt (name_of i)
  name_has (Name name) h = h.0
  name_has i h = tt

  cond_has : (b : Bool) (x : List ℕ) → Has names x → HasIt (cond b (Some x) None)
  cond_has true x h = h
  cond_has false x h = tt

  stored_has : (first : List ℕ) (last : Option (List ℕ)) (i : Item) → AllByRecursion (Has names) (said_by i) → HasIt (stored first last i)
  stored_has first None i h = tt
  stored_has first (Some name) (BindAttr x) h = cond_has (bytes_eq name first) x h.0
  stored_has first (Some name) i h = tt

  front_has : (o : Option (List ℕ)) (xs : Names) → HasIt o → AllByRecursion (Has names) xs → AllByRecursion (Has names) (in_front o xs)
  front_has None xs h k = k
  front_has (Some x) xs h k = (h, k)

  stores_have : (is : Items) (first : List ℕ) (last : Option (List ℕ)) → AllByRecursion (Has names) (said is) → AllByRecursion (Has names) (stores first last is)
  stores_have [] first last h = tt
  stores_have (i ∷ is) first last h = front_has (stored first last i) (stores first (name_of i) is) (stored_has first last i (all_first (Has names) (said_by i) (said is) h)) (stores_have is first (name_of i) (all_rest (Has names) (said_by i) (said is) h))

  abbrev one_of : Option (List ℕ) → Names
  one_of o = in_front o []

  front_both : (o : Option ℕ) (x : Option (List ℕ)) (xs : Names) (ds : List Declares) → (ds ++ in_class o (one_of x)) ++ in_class o xs ≡ ds ++ in_class o (in_front x xs)
  front_both None x xs ds = append-nil (ds ++ [])
  front_both (Some class) None xs ds = ap (λ es. es ++ in_class (Some class) xs) (append-nil ds)
  front_both (Some class) (Some name) xs ds = append_assoc ds (record { class = class; name = name } ∷ []) (in_class (Some class) xs)

  in_none : (o : Option ℕ) → in_class o [] ≡ []
  in_none None = refl
  in_none (Some class) = refl

  store_alike : (at : Spot) (x : Option (List ℕ)) (d : Declared) (ds : List Declares) → Alike d.attributes ds → Alike (old.store_of at (numbered x) d).attributes (ds ++ in_class at.class (one_of x))
  store_alike at None d ds h = same_list d.attributes ds (ds ++ in_class at.class []) (sym (ap (λ es. ds ++ es) (in_none at.class) ∙ append-nil ds)) h
  store_alike at (Some name) d ds h = attribute_alike at.class name d ds h

  stores_alike : (is : Items) (n : ℕ) (at : Spot) (first : List ℕ) (last : Option (List ℕ)) (d : Declared) (ds : List Declares) → AllByRecursion (Has names) (said is) → HasIt last → Alike d.attributes ds
      → Alike (old.stores_from at (number names first) (numbered last) (events names n is) d).attributes (ds ++ in_class at.class (stores first last is))
  stores_alike [] n at first last d ds all has h = same_list d.attributes ds (ds ++ in_class at.class []) (sym (ap (λ es. ds ++ es) (in_none at.class) ∙ append-nil ds)) h
  stores_alike (i ∷ is) n at first last d ds all has h =
      subst (λ (x : Option ℕ). Alike (old.stores_from at (number names first) x (events names (next i n) is) (old.store_of at (old.stored (number names first) (numbered last) (act_of names i)) d)).attributes (ds ++ in_class at.class (stores first last (i ∷ is)))) (sym (name_same i))
      (subst (λ (x : Option ℕ). Alike (old.stores_from at (number names first) (numbered (name_of i)) (events names (next i n) is) (old.store_of at x d)).attributes (ds ++ in_class at.class (stores first last (i ∷ is)))) (sym (stored_same first last i has))
      (same_list (old.stores_from at (number names first) (numbered (name_of i)) (events names (next i n) is) (old.store_of at (numbered (stored first last i)) d)).attributes _ (ds ++ in_class at.class (stores first last (i ∷ is))) (front_both at.class (stored first last i) (stores first (name_of i) is) ds)
      (stores_alike is (next i n) at first (name_of i) (old.store_of at (numbered (stored first last i)) d) (ds ++ in_class at.class (one_of (stored first last i))) (all_rest (Has names) (said_by i) (said is) all) (name_has i (all_first (Has names) (said_by i) (said is) all)) (store_alike at (stored first last i) d ds h))))

  -- ---- members

  abbrev spot : ℕ → Placed → Option ℕ → Spot
  spot unit p o = record { unit = unit; file = p.file; place = p.place; node = p.node; class = o }

  bind_attributes : (o : Option ℕ) (at : Spot) (name : ℕ) (s : Stand) (d : Declared) → (old.bind_in o at name s d).attributes ≡ d.attributes
  bind_attributes None at name s d = refl
  bind_attributes (Some class) at name s d = refl

  method_attributes : (o : Option ℕ) (name : ℕ) (d : Declared) → (old.method_in o name d).attributes ≡ d.attributes
  method_attributes None name d = refl
  method_attributes (Some class) name d = refl

  imports_attributes : (at : Spot) (given of : List ℕ) (d : Declared) → (old.add_imports at given of d).attributes ≡ d.attributes
  imports_attributes at given [] d = refl
  imports_attributes at given (name ∷ of) d = imports_attributes at given of (old.bind_name at name (old_bound.Is (old_imports.import_stand given name)) d)

  taken_attributes : (at : Spot) (s : Source) (of : List ℕ) (d : Declared) → (old.add_taken at s of d).attributes ≡ d.attributes
  taken_attributes at s [] d = refl
  taken_attributes at s (name ∷ of) d = taken_attributes at s of (old.bind_name at name (old_imports.from_bound s name) d)

  bind_methods : (o : Option ℕ) (at : Spot) (name : ℕ) (s : Stand) (d : Declared) → (old.bind_in o at name s d).methods ≡ d.methods
  bind_methods None at name s d = refl
  bind_methods (Some class) at name s d = refl

  attribute_methods : (o : Option ℕ) (name : ℕ) (d : Declared) → (old.attribute_in o name d).methods ≡ d.methods
  attribute_methods None name d = refl
  attribute_methods (Some class) name d = refl

  store_methods : (at : Spot) (o : Option ℕ) (d : Declared) → (old.store_of at o d).methods ≡ d.methods
  store_methods at None d = refl
  store_methods at (Some name) d = attribute_methods at.class name d

  stores_methods : (at : Spot) (first : ℕ) (es : List Event) (last : Option ℕ) (d : Declared) → (old.stores_from at first last es d).methods ≡ d.methods
  stores_methods at first [] last d = refl
  stores_methods at first (e ∷ es) last d = stores_methods at first es (old.name_in e.act) (old.store_of at (old.stored first last e.act) d) ∙ store_methods at (old.stored first last e.act) d

  self_methods : (at : Spot) (ps : List Parameter) (es : List Event) (d : Declared) → (old.declare_self at ps es d).methods ≡ d.methods
  self_methods at [] es d = refl
  self_methods at (p ∷ ps) es d = stores_methods at p.name es None d

  imports_methods : (at : Spot) (given of : List ℕ) (d : Declared) → (old.add_imports at given of d).methods ≡ d.methods
  imports_methods at given [] d = refl
  imports_methods at given (name ∷ of) d = imports_methods at given of (old.bind_name at name (old_bound.Is (old_imports.import_stand given name)) d)

  taken_methods : (at : Spot) (s : Source) (of : List ℕ) (d : Declared) → (old.add_taken at s of d).methods ≡ d.methods
  taken_methods at s [] d = refl
  taken_methods at s (name ∷ of) d = taken_methods at s of (old.bind_name at name (old_imports.from_bound s name) d)

  -- a table that stands as it was, after nothing more
  still : (es fs : Entries) (o : Option ℕ) (ds : List Declares) → fs ≡ es → Alike es ds → Alike fs (ds ++ in_class o [])
  still es fs o ds e h = subst (λ (t : Entries). Alike t (ds ++ in_class o [])) (sym e) (same_list es ds (ds ++ in_class o []) (sym (ap (λ xs. ds ++ xs) (in_none o) ∙ append-nil ds)) h)

  moved : (es fs : Entries) (ds : List Declares) → fs ≡ es → Alike es ds → Alike fs ds
  moved es fs ds e h = subst (λ (t : Entries). Alike t ds) (sym e) h

  self_alike : (ps : List Formal) (unit : ℕ) (p : Placed) (o : Option ℕ) (name : List ℕ) (star : Bool) (body : Body) (d : Declared) (ds : List Declares) → AllByRecursion (Has names) (said (block body.of)) → Alike d.attributes ds
      → Alike (old.declare_self (spot unit p o) (map (parameter names) ps) (body_events names body) d).attributes (ds ++ in_class o (attributes_of (member.Def name ps star body)))
  self_alike [] unit p o name star body d ds all h = still d.attributes d.attributes o ds refl h
  self_alike (q ∷ ps) unit p o name star body d ds all h = stores_alike (block body.of) body.first (spot unit p o) q.name None d ds all tt h

  what_attributes : (w : What) (given : List ℕ) (unit : ℕ) (p : Placed) (o : Option ℕ) (d : Declared) (ds : List Declares) → AllByRecursion (Has names) (member.what_said w) → Alike d.attributes ds
      → Alike (old.add (spot unit p o) given (says names w) d).attributes (ds ++ in_class o (attributes_of w))
  what_attributes (member.Import of) given unit p o d ds all h = still d.attributes _ o ds (imports_attributes (spot unit p o) given (numbers names of) d) h
  what_attributes (member.From path of) given unit p o d ds all h = still d.attributes _ o ds (taken_attributes (spot unit p o) (old_imports.source_of given (numbers names path)) (numbers names of) d) h
  what_attributes (member.Constant name v) given unit p o d ds all h = attribute_alike o name _ ds (moved d.attributes _ ds (bind_attributes o (spot unit p o) (number names name) (stand.Constant (length d.constants)) (old.new_constant (spot unit p o) d)) h)
  what_attributes (member.Def name params star body) given unit p o d ds all h = self_alike params unit p o name star body _ ds (all_rest (Has names) (params_said params) (said (block body.of)) all.1)
      (moved d.attributes _ ds (method_attributes o (number names name) _ ∙ bind_attributes o (spot unit p o) (number names name) (old.function_stand o (length d.functions)) (old.new_function (spot unit p o) d)) h)
  what_attributes (member.Class name base) given unit p o d ds all h = still d.attributes _ o ds (bind_attributes o (spot unit p o) (number names name) (stand.Class (length d.classes + 13)) (old.new_class (spot unit p o) d)) h

  what_methods : (w : What) (given : List ℕ) (unit : ℕ) (p : Placed) (o : Option ℕ) (d : Declared) (ds : List Declares) → Alike d.methods ds
      → Alike (old.add (spot unit p o) given (says names w) d).methods (ds ++ in_class o (methods_of w))
  what_methods (member.Import of) given unit p o d ds h = still d.methods _ o ds (imports_methods (spot unit p o) given (numbers names of) d) h
  what_methods (member.From path of) given unit p o d ds h = still d.methods _ o ds (taken_methods (spot unit p o) (old_imports.source_of given (numbers names path)) (numbers names of) d) h
  what_methods (member.Constant name v) given unit p o d ds h = still d.methods _ o ds (attribute_methods o (number names name) _ ∙ bind_methods o (spot unit p o) (number names name) (stand.Constant (length d.constants)) (old.new_constant (spot unit p o) d)) h
  what_methods (member.Def name params star body) given unit p o d ds h = moved _ _ (ds ++ in_class o (name ∷ [])) (self_methods (spot unit p o) (map (parameter names) params) (body_events names body) _)
      (method_alike o name _ ds (moved d.methods _ ds (bind_methods o (spot unit p o) (number names name) (old.function_stand o (length d.functions)) (old.new_function (spot unit p o) d)) h))
  what_methods (member.Class name base) given unit p o d ds h = still d.methods _ o ds (bind_methods o (spot unit p o) (number names name) (stand.Class (length d.classes + 13)) (old.new_class (spot unit p o) d)) h

module _ (names rest modules : Names) (begins : names ≡ texts words ++ rest) (all : AllByRecursion (Has names) modules) where
  abbrev given : List ℕ
  given = numbers names modules

  abbrev counts : Declared → Counts
  counts d = record { functions = length d.functions; classes = length d.classes; constants = length d.constants }

  abbrev here : Bool → Counts → Option ℕ
  here inside c = old.class_here inside c.classes

  units_attributes : (ps : List Placed) (unit : ℕ) (d : Declared) (ds : List Declares) (c : Counts) → counts d ≡ c → AllByRecursion (IsKnown names) ps → Alike names d.attributes ds
      → Alike names (old.declared_from given unit (map (listed names) ps) d).attributes (ds ++ declared_from attributes_of c ps)
  units_attributes [] unit d ds c n has h = same_list names d.attributes ds (ds ++ []) (sym (append-nil ds)) h
  units_attributes (p ∷ ps) unit d ds c n has h =
      same_list names _ _ _ (append_assoc ds (in_class (here p.inside c) (attributes_of p.what)) (declared_from attributes_of (count p.what c) ps))
      (units_attributes ps (unit + 1) (old.add_unit given unit (listed names p) d) (ds ++ in_class (here p.inside c) (attributes_of p.what)) (count p.what c) (table.what_counted names rest modules begins all p.what unit p d c n) has.1
      (same_list names _ _ _ (ap (λ x. ds ++ in_class (here p.inside x) (attributes_of p.what)) n) (what_attributes names p.what given unit p (here p.inside (counts d)) d ds has.0 h)))

  units_methods : (ps : List Placed) (unit : ℕ) (d : Declared) (ds : List Declares) (c : Counts) → counts d ≡ c → Alike names d.methods ds
      → Alike names (old.declared_from given unit (map (listed names) ps) d).methods (ds ++ declared_from methods_of c ps)
  units_methods [] unit d ds c n h = same_list names d.methods ds (ds ++ []) (sym (append-nil ds)) h
  units_methods (p ∷ ps) unit d ds c n h =
      same_list names _ _ _ (append_assoc ds (in_class (here p.inside c) (methods_of p.what)) (declared_from methods_of (count p.what c) ps))
      (units_methods ps (unit + 1) (old.add_unit given unit (listed names p) d) (ds ++ in_class (here p.inside c) (methods_of p.what)) (count p.what c) (table.what_counted names rest modules begins all p.what unit p d c n)
      (same_list names _ _ _ (ap (λ x. ds ++ in_class (here p.inside x) (methods_of p.what)) n) (what_methods names p.what given unit p (here p.inside (counts d)) d ds h)))

-- ---- all names that are declared stand in the table

abbrev pub IsNamed : Names → Declares → Type 0
IsNamed names d = Has names d.name

named_in : (names : Names) (o : Option ℕ) (xs : Names) → AllByRecursion (Has names) xs → AllByRecursion (IsNamed names) (in_class o xs)
named_in names None xs h = tt
named_in names (Some class) [] h = tt
named_in names (Some class) (x ∷ xs) h = (h.0, named_in names (Some class) xs h.1)

attributes_have : (names : Names) (w : What) → AllByRecursion (Has names) (member.what_said w) → AllByRecursion (Has names) (attributes_of w)
attributes_have names (member.Constant name v) h = ((all_rest (Has names) (said (expr v.of)) (name ∷ []) h).0, tt)
attributes_have names (member.Def name [] star body) h = tt
attributes_have names (member.Def name (p ∷ ps) star body) h = stores_have names (block body.of) p.name None (all_rest (Has names) (params_said (p ∷ ps)) (said (block body.of)) h.1)
attributes_have names other h = tt

methods_have : (names : Names) (w : What) → AllByRecursion (Has names) (member.what_said w) → AllByRecursion (Has names) (methods_of w)
methods_have names (member.Def name ps star body) h = (h.0, tt)
methods_have names other h = tt

all_named : (names : Names) (of : What → Names) → ((w : What) → AllByRecursion (Has names) (member.what_said w) → AllByRecursion (Has names) (of w)) → (ps : List Placed) (c : Counts) → AllByRecursion (IsKnown names) ps → AllByRecursion (IsNamed names) (declared_from of c ps)
all_named names of each [] c has = tt
all_named names of each (p ∷ ps) c has = all_both (IsNamed names) (in_class (old.class_here p.inside c.classes) (of p.what)) (declared_from of (count p.what c) ps) (named_in names (old.class_here p.inside c.classes) (of p.what) (each p.what has.0)) (all_named names of each ps (count p.what c) has.1)

-- ---- all modules

pub attributes_named : (ms : List Named) → AllByRecursion (IsNamed (names_of ms)) (attributes (members ms))
attributes_named ms = all_named (names_of ms) attributes_of (attributes_have (names_of ms)) (members ms) none_before (members_known ms)

pub methods_named : (ms : List Named) → AllByRecursion (IsNamed (names_of ms)) (methods (members ms))
methods_named ms = all_named (names_of ms) methods_of (methods_have (names_of ms)) (members ms) none_before (members_known ms)

attributes_by : (ms : List Named) (begins : (rest : Names) × (names_of ms ≡ texts words ++ rest)) → Alike (names_of ms) (old.declared (numbers (names_of ms) (module_names ms)) (map (listed (names_of ms)) (members ms))).attributes (attributes (members ms))
attributes_by ms (rest, e) = units_attributes (names_of ms) rest (module_names ms) e (modules_stand ms) (members ms) 0 old.start [] none_before refl (members_known ms) (λ p. refl)

methods_by : (ms : List Named) (begins : (rest : Names) × (names_of ms ≡ texts words ++ rest)) → Alike (names_of ms) (old.declared (numbers (names_of ms) (module_names ms)) (map (listed (names_of ms)) (members ms))).methods (methods (members ms))
methods_by ms (rest, e) = units_methods (names_of ms) rest (module_names ms) e (modules_stand ms) (members ms) 0 old.start [] none_before refl (λ p. refl)

pub attributes_alike : (ms : List Named) → Alike (names_of ms) (old.declared (listing.listing ms).modules (listing.listing ms).units).attributes (attributes (members ms))
attributes_alike ms = subst (λ l. Alike (names_of ms) (old.declared l.modules l.units).attributes (attributes (members ms))) (sym (listing_is ms)) (attributes_by ms (table_begins ms))

pub methods_alike : (ms : List Named) → Alike (names_of ms) (old.declared (listing.listing ms).modules (listing.listing ms).units).methods (methods (members ms))
methods_alike ms = subst (λ l. Alike (names_of ms) (old.declared l.modules l.units).methods (methods (members ms))) (sym (listing_is ms)) (methods_by ms (table_begins ms))
