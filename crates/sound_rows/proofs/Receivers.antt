-- Methods of whatever the receiver is.
use Rattle.std.proofs.Common.{◌≡◌, ◌<◌, ◌≤◌, ℕ, zero, suc, ◌+◌, Bool, true, false, List, [], ◌∷◌, ◌++◌, length, Option, Some, None, refl, ap, sym, subst, ◌∙◌, arith, inl, inr}
use Rattle.std.specs.Prelude.{ℤ, pos, negsuc, min, ◌||◌, ◌&&◌, not, nat_le, nat_lt, slice_get, map, insert, remove, reverse, is_some, unwrap_or, option_and_then, if◌then◌else◌}
use Rattle.std.proofs.lemmas.Option.{slice_get_past}
use Rattle.std.proofs.lemmas.Bool.{ltb-true, ltb-false}
use Rattle.rpy_tree.specs.declared.program.ClassInfo.{ClassInfo}
use Rattle.rpy_tree.specs.Value.{Value, Word, Nothing, Ref, Listed, Mapped, Instance}
use Rattle.rpy_meaning.specs.declared.row.Covers.{Covers}
use Rattle.rpy_meaning.specs.World.{bad, give, new_object, set_object, index_error, if_some}
use Rattle.rpy_meaning.specs.Costs.{append_cost, keys_cost, items_cost}
use Rattle.rpy_meaning.specs.Sequences.{place, item_at, value_at, tuple, parts_of}
use Rattle.rpy_meaning.specs.Walks.{keys_of}
use Rattle.rpy_meaning.specs.Methods as meant
use Rattle.rpy_meaning.specs.Methods.{taken_out}
use Rattle.rpy_meaning.specs.Operations.{object_method, method, enter}
use Rattle.class_desc.specs.Line as line
use Rattle.ann_element.specs.Sites.{Same}
use Rattle.ann_lattice.specs.declared.method.Method.{Method}
use Rattle.ann_lattice.specs.declared.method.Method.TheVariants as m
use Rattle.ann_lattice.specs.Shape.{Shape, NoneOnly, Num, Tup, Lst, Dct, Inst, Shapes, end}
use Rattle.ann_lattice.specs.Shape as shape
use Rattle.ann_lattice.specs.Join.{depth}
use Rattle.ann_lattice.specs.Kind.{misfit, given, is_int, is_positive, is_nothing}
use Rattle.ann_lattice.specs.Order.{Sub}
use Rattle.ann_lattice.specs.Assign.{mark, at, Need}
use Rattle.ann_lattice.specs.Assign as assign
use Rattle.ann_lattice.specs.Methods as methods
use Rattle.ann_lattice.specs.Row as row
use Rattle.ann_lattice.proofs.Tree.{sub_self}
use Rattle.ann_laws.proofs.Instances.{method_down}
use Rattle.ann_rules.specs.Asks.{to_items, flow, from_each, reach, results, when}
use Rattle.ann_rules.specs.Asks as asking
use Rattle.sound_values.specs.Values as values
use Rattle.sound_values.specs.Values.{ListOf, DictOf, InstanceOf, none, none_str, none_list, none_dict, none_inst, none_fun, text, list, dict, inst, fun, clash, no_more, and_more}
use Rattle.sound_values.specs.Heaps.{AllOf, PairsOf, HasInstances}
use Rattle.sound_values.proofs.Objects.{list_at, dict_at, instance_at}
use Rattle.sound_rows.proofs.Tools.{no, Setting, Sounds, Has, Have, Under, misfits, fits, give_ok, give_of, none_ok, index_ok, paying_ok, at_object_ok, set_object_ok, raise_to, listed_ok}
use Rattle.sound_rows.proofs.Operands.{word_of}
use Rattle.sound_rows.proofs.Tests.{reached}
use Rattle.sound_rows.proofs.Items.{place_within, found, all_append, all_insert, all_remove, all_reverse, all_at, all_by, keys_are, values_are, value_of}
use Rattle.sound_rows.proofs.Containers.{met_append, if_some_ok, Met, Items, Keys, items_same, keys_same, goes, item_goes, AllUnder}
use Rattle.sound_rows.proofs.Constants.{given_goes}
use Rattle.sound_rows.proofs.Making.{extend_ok}
use Rattle.sound_rows.proofs.Classes.{same_method}
use Rattle.sound_rows.proofs.Attributes.{Within, met_within}
use Rattle.sound_rows.proofs.Calls.{enter_ok}
use Rattle.sound_rows.proofs.Methods.{Named, appends, pops, inserts, extends, reverses, gets, keys, iter_keys, all_values, iter_values, all_pairs, iter_pairs, method_is, no_value, text_method_ok}

-- a class of which there is none has no method
no_class : (k : List ClassInfo) (e : ℕ) (name : List ℕ) → slice_get k e ≡ None → line.method k e name ≡ None
no_class k e name h = by (length k)
  where
    by : (n : ℕ) → line.nearest (line.own_method k name) (line.line k n e) ≡ None
    by zero = refl
    by (suc n) =
        ap (λ o. line.either_of (line.named name (line.methods_in o)) (line.nearest (line.own_method k name) (line.onward (line.line k n) (line.base_in o)))) h

pub positive_int : (x : Shape) → is_positive x ≡ true → is_int x ≡ true
positive_int (Num false) e = refl
positive_int (Num true) e = refl
positive_int x e = absurd (no e)

module _ (s : Setting) where
  -- ---- lists

  module _ (c : Covers) (r u k : ℕ) (items : List Value) (h : slice_get s.sorts r ≡ Some (ListOf u)) (q : Same s.a.same u k) (are : AllOf s.p s.a s.sorts (Items s u) items) where
    append_ok : (xs : List Shape) (vs : List Value) → Have s xs vs → Under s (given (methods.one_arg xs) NoneOnly) → Met s (asking.list_asks s.p s.a m.Append k xs) → Sounds s (meant.append r items vs)
    append_ok [] vs i b n = absurd (misfits s b)
    append_ok (x ∷ []) [] i b n = absurd i
    append_ok (x ∷ []) (v ∷ []) i b n =
        paying_ok s append_cost (set_object r (Listed (items ++ v ∷ [])) Nothing)
        (set_object_ok s r (ListOf u) (Listed (items ++ v ∷ [])) Nothing h (all_append s.p s.a s.sorts (Items s u) items (v ∷ []) are (item_goes s u k x v q n i.0, tt)) (raise_to s NoneOnly Nothing b none))
    append_ok (x ∷ []) (v ∷ w ∷ vs) i b n = absurd i.1
    append_ok (x ∷ y ∷ xs) vs i b n = absurd (misfits s b)

    item_there : (z : ℤ) (i : ℕ) (v : Value) → place z (length items) ≡ Some i → slice_get items i ≡ Some v → item_at z items ≡ Some v
    item_there z i v e f = ap (option_and_then (slice_get items)) e ∙ f

    taken_ok : (z : ℤ) → Under s (Items s k) → Sounds s (taken_out c r items z)
    taken_ok z b =
        if_some_ok s (index_error c) (place z (length items)) (λ i. if_some bad (item_at z items) (λ v. set_object r (Listed (remove items i)) v)) (index_ok s c)
        (λ i e.
        let f = found items i (place_within z (length items) i e) in
        subst (λ o. Sounds s (if_some bad o (λ v. set_object r (Listed (remove items i)) v))) (sym (item_there z i f.item e f.there))
        (set_object_ok s r (ListOf u) (Listed (remove items i)) f.item h (all_remove s.p s.a s.sorts (Items s u) items i are)
        (raise_to s (Items s k) f.item b (subst (λ x. Has s x f.item) (items_same s u k q) (all_at s.p s.a s.sorts (Items s u) items i f.item f.there are)))))

    pop_ok : (xs : List Shape) (vs : List Value) → Have s xs vs → Under s (given (methods.none_or_int xs) (Items s k)) → Sounds s (meant.pop c r items vs)
    pop_ok [] [] i b = taken_ok (negsuc 0) b
    pop_ok [] (v ∷ vs) i b = absurd i
    pop_ok (x ∷ []) [] i b = absurd i
    pop_ok (x ∷ []) (v ∷ []) i b =
        let g = fits s (is_int x) (Items s k) b in
        let w = word_of s x v i.0 g.0 in
        subst (λ p. Sounds s (meant.pop c r items (p ∷ []))) (sym w.is) (taken_ok w.number g.1)
    pop_ok (x ∷ []) (v ∷ w ∷ vs) i b = absurd i.1
    pop_ok (x ∷ y ∷ xs) vs i b = absurd (misfits s b)

    insert_word : (z : ℤ) (x : Shape) (v : Value) → Has s x v → Met s (to_items s.p s.a k x) → Under s NoneOnly → Sounds s (meant.insert_at r items (Word z ∷ v ∷ []))
    insert_word (negsuc j) x v i n b = λ w e. tt
    insert_word (pos j) x v i n b =
        paying_ok s append_cost (set_object r (Listed (insert items (min j (length items)) v)) Nothing)
        (set_object_ok s r (ListOf u) (Listed (insert items (min j (length items)) v)) Nothing h
        (all_insert s.p s.a s.sorts (Items s u) items (min j (length items)) v are (item_goes s u k x v q n i)) (raise_to s NoneOnly Nothing b none))

    insert_ok : (xs : List Shape) (vs : List Value) → Have s xs vs → Under s (given (methods.place_and_value xs) NoneOnly) → Met s (asking.list_asks s.p s.a m.Insert k xs) → Sounds s (meant.insert_at r items vs)
    insert_ok [] vs i b n = absurd (misfits s b)
    insert_ok (x ∷ []) vs i b n = absurd (misfits s b)
    insert_ok (x ∷ y ∷ []) [] i b n = absurd i
    insert_ok (x ∷ y ∷ []) (v ∷ []) i b n = absurd i.1
    insert_ok (x ∷ y ∷ []) (v ∷ w ∷ []) i b n =
        let g = fits s (is_positive x) NoneOnly b in
        let z = word_of s x v i.0 (positive_int x g.0) in
        subst (λ p. Sounds s (meant.insert_at r items (p ∷ w ∷ []))) (sym z.is) (insert_word z.number y w i.1.0 n g.1)
    insert_ok (x ∷ y ∷ []) (v ∷ w ∷ t ∷ vs) i b n = absurd i.1.1
    insert_ok (x ∷ y ∷ z ∷ xs) vs i b n = absurd (misfits s b)

    extended_one : (x : Shape) (v : Value) → Has s x v → Under s (methods.extended (x ∷ [])) → Met s (flow s.p s.a x k) → Sounds s (meant.extend_by c r items (v ∷ []))
    extended_one _ _ none b n = none_ok s c
    extended_one _ _ (none_list t) b n = none_ok s c
    extended_one _ _ (list t' n' r' u' h' q') b n = extend_ok s r u k r' u' t' n' Nothing h q h' q' n (raise_to s NoneOnly Nothing b none)
    extended_one x v i b n = absurd (misfits s b)

    extended_more : (x y : Shape) (xs : List Shape) → methods.extended (x ∷ y ∷ xs) ≡ misfit
    extended_more NoneOnly y xs = refl
    extended_more (Lst t l) y xs = refl
    extended_more x y xs = refl

    extends_ok : (xs : List Shape) (vs : List Value) → Have s xs vs → Under s (methods.extended xs) → Met s (asking.list_asks s.p s.a m.Extend k xs) → Sounds s (meant.extend_by c r items vs)
    extends_ok [] vs i b n = absurd (misfits s b)
    extends_ok (x ∷ []) [] i b n = absurd i
    extends_ok (x ∷ []) (v ∷ []) i b n = extended_one x v i.0 b n
    extends_ok (x ∷ []) (v ∷ w ∷ vs) i b n = absurd i.1
    extends_ok (x ∷ y ∷ xs) vs i b n = absurd (misfits s (subst (λ z. Under s z) (extended_more x y xs) b))

    list_method_ok : (name : List ℕ) (n : Method) → Named name n → (xs : List Shape) (vs : List Value) → Have s xs vs → Under s (methods.list_method n xs shape.Nothing)
        → Under s (methods.list_method n xs (Items s k)) → Met s (asking.list_asks s.p s.a n k xs) → Sounds s (object_method s.q c name r vs (Some (Listed items)))
    list_method_ok _ _ appends xs vs i b bs n = append_ok xs vs i b n
    list_method_ok _ _ pops xs vs i b bs n = pop_ok xs vs i bs
    list_method_ok _ _ inserts xs vs i b bs n = insert_ok xs vs i b n
    list_method_ok _ _ extends xs vs i b bs n = extends_ok xs vs i b n
    list_method_ok _ _ reverses xs vs i b bs n =
        let g = fits s (methods.no_args xs) NoneOnly b in
        subst (λ us. Sounds s (meant.reverse_list r items us)) (sym (no_value s xs vs i g.0))
        (set_object_ok s r (ListOf u) (Listed (reverse items)) Nothing h (all_reverse s.p s.a s.sorts (Items s u) items are) (raise_to s NoneOnly Nothing g.1 none))
    list_method_ok name n i xs vs j b bs l = absurd (misfits s b)

  -- for each further part
  abbrev pub Parted : (Shape → List Shape) → List Shape → Type 0
  Parted f [] = Unit {0}
  Parted f (q ∷ qs) = assign.Under s.p.tables.classes s.a.same (f q) s.z × Parted f qs

  pub each_first : (f : Shape → Shape) (qs : List Shape) → Parted (λ q. f q ∷ []) qs → AllUnder s f qs
  each_first f [] h = tt
  each_first f (q ∷ qs) h = (h.0.0, each_first f qs h.1)

  -- ---- dicts

  -- each of these
  abbrev pub Pieces : List Shape → Type 0
  Pieces xs = assign.Under s.p.tables.classes s.a.same xs s.z

  module _ (c : Covers) (r u k : ℕ) (pairs : List (Value × Value)) (q : Same s.a.same u k) (are : PairsOf s.p s.a s.sorts (Keys s u) (Items s u) pairs) where
    got_value : (o : Option Value) (key other : Value) → value_at key pairs ≡ o → Has s s.z other → Under s (Items s k) → Sounds s (give (unwrap_or o other))
    got_value None key other e h b w i = give_ok s other h w i
    got_value (Some v) key other e h b w i =
        give_of s (Items s k) v b (subst (λ x. Has s x v) (items_same s u k q) (value_of s.p s.a s.sorts (Keys s u) (Items s u) key pairs v e are)) w i

    get_ok : (xs : List Shape) (vs : List Value) → Have s xs vs → Pieces (methods.got xs (Items s k)) → Sounds s (meant.get pairs vs)
    get_ok [] vs i b = absurd (misfits s b.0)
    get_ok (x ∷ []) [] i b = absurd i
    get_ok (x ∷ []) (v ∷ []) i b = got_value (value_at v pairs) v Nothing refl (raise_to s NoneOnly Nothing b.1.0 none) b.0
    get_ok (x ∷ []) (v ∷ w ∷ vs) i b = absurd i.1
    get_ok (x ∷ y ∷ []) [] i b = absurd i
    get_ok (x ∷ y ∷ []) (v ∷ []) i b = absurd i.1
    get_ok (x ∷ y ∷ []) (v ∷ w ∷ []) i b = got_value (value_at v pairs) v w refl (raise_to s y w b.1.0 i.1.0) b.0
    get_ok (x ∷ y ∷ []) (v ∷ w ∷ t ∷ vs) i b = absurd i.1.1
    get_ok (x ∷ y ∷ z ∷ xs) vs i b = absurd (misfits s b.0)

    keys_ok : (site : Option ℕ) (xs : List Shape) (vs : List Value) → Have s xs vs → Under s (methods.own_list site (methods.no_args xs)) → Met s (asking.dict_asks s.p s.a m.Keys k site xs) → Sounds s (meant.keys pairs vs)
    keys_ok None xs vs i b n = absurd (misfits s b)
    keys_ok (Some site) xs vs i b n =
        let g = fits s (methods.no_args xs) (Lst site false) b in
        subst (λ us. Sounds s (meant.keys pairs us)) (sym (no_value s xs vs i g.0))
        (paying_ok s (keys_cost (length pairs)) (new_object (Listed (keys_of pairs)))
        (listed_ok s site (keys_of pairs)
        (all_by s.p s.a s.sorts (Keys s u) (Items s site) (λ v j. goes s (Keys s k) (Items s site) v n.0.0 (subst (λ y. Has s y v) (keys_same s u k q) j)) (keys_of pairs) (keys_are s.p s.a s.sorts (Keys s u) (Items s u) pairs are)) g.1))

    values_ok : (site : Option ℕ) (xs : List Shape) (vs : List Value) → Have s xs vs → Under s (methods.own_list site (methods.no_args xs)) → Met s (asking.dict_asks s.p s.a m.Values k site xs) → Sounds s (meant.values pairs vs)
    values_ok None xs vs i b n = absurd (misfits s b)
    values_ok (Some site) xs vs i b n =
        let g = fits s (methods.no_args xs) (Lst site false) b in
        let found : List Value = map (λ (p : Value × Value). p.1) pairs in
        subst (λ us. Sounds s (meant.values pairs us)) (sym (no_value s xs vs i g.0))
        (paying_ok s (keys_cost (length pairs)) (new_object (Listed found))
        (listed_ok s site found
        (all_by s.p s.a s.sorts (Items s u) (Items s site) (λ v j. goes s (Items s k) (Items s site) v n.0.0 (subst (λ y. Has s y v) (items_same s u k q) j)) found (values_are s.p s.a s.sorts (Keys s u) (Items s u) pairs are)) g.1))

    -- where there is a pair, pairs are asked to be items
    asked_pair : (site : ℕ) (v w : Value) → Has s (Keys s k) v → Has s (Items s k) w → Met s (asking.pairs s.p s.a site (Keys s k) (Items s k)) → Has s (Items s site) (tuple (v ∷ w ∷ []))
    asked_pair site v w i j n =
        let met = subst (λ b. Met s (when (not (b || is_nothing (Items s k))) (to_items s.p s.a site (row.if_shallow (Tup (shape.more (Keys s k) (shape.more (Items s k) end))))))) (reached s (Keys s k) v i) n in
        let met2 = subst (λ b. Met s (when (not (false || b)) (to_items s.p s.a site (row.if_shallow (Tup (shape.more (Keys s k) (shape.more (Items s k) end))))))) (reached s (Items s k) w j) met in
        given_goes s.p s.a s.q s.sees s.sorts s.typed.prebuilt (nat_le (depth (Tup (shape.more (Keys s k) (shape.more (Items s k) end)))) 8) (Tup (shape.more (Keys s k) (shape.more (Items s k) end))) (Items s site)
        (tuple (v ∷ w ∷ [])) met2.0.0
        (values.tuple (shape.more (Keys s k) (shape.more (Items s k) end)) (parts_of (v ∷ w ∷ []))
        (and_more (Keys s k) (shape.more (Items s k) end) v (parts_of (w ∷ [])) i (and_more (Items s k) end w (parts_of []) j no_more)))

    all_asked : (site : ℕ) (some : List (Value × Value)) → PairsOf s.p s.a s.sorts (Keys s u) (Items s u) some → Met s (asking.pairs s.p s.a site (Keys s k) (Items s k))
        → AllOf s.p s.a s.sorts (Items s site) (map (λ p. tuple (p.0 ∷ p.1 ∷ [])) some)
    all_asked site [] h n = tt
    all_asked site (pair ∷ some) h n =
        (asked_pair site pair.0 pair.1 (subst (λ y. Has s y pair.0) (keys_same s u k q) h.0.0) (subst (λ y. Has s y pair.1) (items_same s u k q) h.0.1) n, all_asked site some h.1 n)

    pairs_ok : (site : Option ℕ) (xs : List Shape) (vs : List Value) → Have s xs vs → Under s (methods.own_list site (methods.no_args xs)) → Met s (asking.dict_asks s.p s.a m.Items k site xs) → Sounds s (meant.items pairs vs)
    pairs_ok None xs vs i b n = absurd (misfits s b)
    pairs_ok (Some site) xs vs i b n =
        let g = fits s (methods.no_args xs) (Lst site false) b in
        let found : List Value = map (λ p. tuple (p.0 ∷ p.1 ∷ [])) pairs in
        subst (λ us. Sounds s (meant.items pairs us)) (sym (no_value s xs vs i g.0))
        (paying_ok s (items_cost (length pairs)) (new_object (Listed found)) (listed_ok s site found (all_asked site pairs are n) g.1))

    dict_method_ok : (name : List ℕ) (n : Method) → Named name n → (site : Option ℕ) (xs : List Shape) (vs : List Value) → Have s xs vs → Pieces (methods.dict_method n site xs shape.Nothing)
        → Pieces (methods.dict_method n site xs (Items s k)) → Met s (asking.dict_asks s.p s.a n k site xs) → Sounds s (object_method s.q c name r vs (Some (Mapped pairs)))
    dict_method_ok _ _ gets site xs vs i b bs n = get_ok xs vs i bs
    dict_method_ok _ _ keys site xs vs i b bs n = keys_ok site xs vs i b.0 n
    dict_method_ok _ _ iter_keys site xs vs i b bs n = keys_ok site xs vs i b.0 n
    dict_method_ok _ _ all_values site xs vs i b bs n = values_ok site xs vs i b.0 n
    dict_method_ok _ _ iter_values site xs vs i b bs n = values_ok site xs vs i b.0 n
    dict_method_ok _ _ all_pairs site xs vs i b bs n = pairs_ok site xs vs i b.0 n
    dict_method_ok _ _ iter_pairs site xs vs i b bs n = pairs_ok site xs vs i b.0 n
    dict_method_ok name n i site xs vs j b bs l = absurd (misfits s b.0)

  -- ---- instances

  -- the methods of the classes that have instances, below a class, are called
  found_by : (b c : Bool) (e f : ℕ) (o : Option ℕ) → b ≡ true → c ≡ true → o ≡ Some f → Within (e, f) (asking.paired e (if b && c then o else None))
  found_by true true e f o g h i = subst (λ p. Within (e, f) (asking.paired e p)) (sym i) (inl refl)
  found_by true false e f o g h i = absurd (no h)
  found_by false c e f o g h i = absurd (no g)

  within_first : {A : Type 0} (x : A) (xs ys : List A) → Within x xs → Within x (xs ++ ys)
  within_first x [] ys h = absurd h
  within_first x (y ∷ xs) ys (inl e) = inl e
  within_first x (y ∷ xs) ys (inr h) = inr (within_first x xs ys h)

  within_second : {A : Type 0} (x : A) (xs ys : List A) → Within x ys → Within x (xs ++ ys)
  within_second x [] ys h = h
  within_second x (y ∷ xs) ys h = inr (within_second x xs ys h)

  is_found_by : (d : ℕ) (name : List ℕ) (e f c n : ℕ) (b : Bool) → nat_lt c e ≡ b → c ≤ e → mark s.a (s.p.places.made e) ≡ true → Sub s.p.tables.classes e d → line.method s.p.tables.classes e name ≡ Some f
      → (suc c ≤ e → Within (e, f) (asking.methods_from s.p s.a d name (suc c) n)) → Within (e, f) (asking.method_of s.p s.a d name c ++ asking.methods_from s.p s.a d name (suc c) n)
  is_found_by d name e f c n true q l h i j later =
      let lt = ltb-true c e q in
      within_second (e, f) (asking.method_of s.p s.a d name c) (asking.methods_from s.p s.a d name (suc c) n) (later (omega (arith, lt)))
  is_found_by d name e f c n false q l h i j later =
      let le = ltb-false c e q in
      let same : e ≡ c = omega (arith, le, l) in
      within_first (e, f) (asking.method_of s.p s.a d name c) (asking.methods_from s.p s.a d name (suc c) n)
      (subst (λ x. Within (e, f) (asking.method_of s.p s.a d name x)) same
      (found_by (mark s.a (s.p.places.made e)) (line.is_below s.p.tables.classes e d) e f (line.method s.p.tables.classes e name) h i j))

  is_found : (d : ℕ) (name : List ℕ) (e f c n : ℕ) → c ≤ e → e < c + n → mark s.a (s.p.places.made e) ≡ true → Sub s.p.tables.classes e d → line.method s.p.tables.classes e name ≡ Some f
      → Within (e, f) (asking.methods_from s.p s.a d name c n)
  is_found d name e f c zero l g h i j = absurd (omega (arith, l, g))
  is_found d name e f c (suc n) l g h i j =
      is_found_by d name e f c n (nat_lt c e) refl l h i j (λ l'. is_found d name e f (suc c) n l' (omega (arith, g)) h i j)

  none_some : {f : ℕ} → None ≡ Some f → ⊥
  none_some e = cc

  -- a class with a method is one
  class_there : (e f : ℕ) (name : List ℕ) → line.method s.p.tables.classes e name ≡ Some f → e < length s.p.tables.classes
  class_there e f name j = by (nat_lt e (length s.p.tables.classes)) refl
    where
      by : (b : Bool) → nat_lt e (length s.p.tables.classes) ≡ b → e < length s.p.tables.classes
      by true q = ltb-true e (length s.p.tables.classes) q
      by false q = absurd (none_some (sym (no_class s.p.tables.classes e name (slice_get_past s.p.tables.classes e (ltb-false e (length s.p.tables.classes) q))) ∙ j))

  methods_of_class : (d : ℕ) (name : List ℕ) (e f : ℕ) → HasInstances s.p s.a e → Sub s.p.tables.classes e d → methods.has_method s.p.tables.classes name d ≡ true → line.method s.p.tables.classes e name ≡ Some f
      → Within (e, f) (asking.methods s.p s.a d name)
  methods_of_class d name e f (inl made) i has j =
      let lt = class_there e f name j in
      is_found d name e f 0 (length s.p.tables.classes) (omega arith) (omega (arith, lt)) made i j
  methods_of_class d name e f (inr lt) i has j = absurd (none_some (sym (s.sees.plain e name lt) ∙ j))

  under_found : (name : List ℕ) (d : ℕ) (t : Shape → List Shape) (found : List (ℕ × ℕ)) (x : ℕ × ℕ) → Parted t (results s.p s.a (map (λ f. f.1) found)) → Within x found → Pieces (t (at s.a (s.p.places.result x.1)))
  under_found name d t [] x bs h = absurd h
  under_found name d t (y ∷ ys) x bs (inl e) = subst (λ (z : ℕ × ℕ). Pieces (t (at s.a (s.p.places.result z.1)))) (sym e) bs.0
  under_found name d t (y ∷ ys) x bs (inr h) = under_found name d t ys x bs.1 h

  instance_method : (c : Covers) (name : List ℕ) (d e r : ℕ) (xs : List Shape) (vs : List Value) → slice_get s.sorts r ≡ Some (InstanceOf e) → Sub s.p.tables.classes e d → HasInstances s.p s.a e → Have s xs vs
      → methods.has_method s.p.tables.classes name d ≡ true → Parted (λ q. given (methods.has_method s.p.tables.classes name d) q ∷ []) (results s.p s.a (map (λ f. f.1) (asking.methods s.p s.a d name)))
      → Met s (asking.call_methods s.p s.a (asking.methods s.p s.a d name) xs) → (o : Option ℕ) → line.method s.p.tables.classes e name ≡ o → is_some o ≡ true
      → Sounds s (if_some bad o (λ f. enter s.q c f (Ref r ∷ vs)))
  instance_method c name d e r xs vs h i made j has bs n None g some = absurd (no some)
  instance_method c name d e r xs vs h i made j has bs n (Some f) g some =
      let w = methods_of_class d name e f made i has g in
      let all : List (ℕ × ℕ) = asking.methods s.p s.a d name in
      let ms = met_append s.p.tables.classes s.a (from_each (λ (f : ℕ × ℕ). reach s.p f.1 (Inst f.0 false ∷ xs)) all) (asking.tie_each s.p s.a true (map (λ f. f.1) all) (map (λ f. f.1) all)) n in
      let m = met_within s.p.tables.classes s.a (λ (f : ℕ × ℕ). reach s.p f.1 (Inst f.0 false ∷ xs)) (e, f) all ms.0 w in
      let b = under_found name d (λ q. given (methods.has_method s.p.tables.classes name d) q ∷ []) all (e, f) bs w in
      enter_ok s f (Inst e false ∷ xs) (Ref r ∷ vs) (inst e false r e h (sub_self s.p.tables.classes s.sees.tree.tree e), j) m
      (fits s (methods.has_method s.p.tables.classes name d) (at s.a (s.p.places.result f)) b.0).1

  -- ---- whatever the receiver is

  receiver_ok : (c : Covers) (name : List ℕ) (site : Option ℕ) (x : Shape) (v : Value) (xs : List Shape) (vs : List Value) → Has s x v → Have s xs vs
      → Pieces (methods.method s.p.tables.classes name site x xs shape.Nothing) → Parted (methods.method s.p.tables.classes name site x xs) (asking.method_parts s.p s.a name (x ∷ xs))
      → Met s (asking.method_asks s.p s.a name site x xs) → Sounds s (method s.q c name (v ∷ vs))
  receiver_ok c name site _ _ xs vs none h b bs n = none_ok s c
  receiver_ok c name site _ _ xs vs none_str h b bs n = none_ok s c
  receiver_ok c name site _ _ xs vs (none_list k) h b bs n = none_ok s c
  receiver_ok c name site _ _ xs vs (none_dict k) h b bs n = none_ok s c
  receiver_ok c name site _ _ xs vs (none_inst k) h b bs n = none_ok s c
  receiver_ok c name site _ _ xs vs (text width bytes f) h b bs n =
      text_method_ok s c name (methods.method_named name) (method_is name) site width bytes xs vs f h b.0 (each_first (methods.text_method (methods.method_named name) site (shape.Str width) xs) (asking.first_held s.p s.a xs) bs) n
  receiver_ok c name site _ _ xs vs (list k l r u i q) h b bs n =
      let o = list_at s.p s.a s.q.sites s.sorts s.heap s.typed r u i in
      at_object_ok s r (Listed o.items) (object_method s.q c name r vs) o.there
      (list_method_ok c r u k o.items i q o.are name (methods.method_named name) (method_is name) xs vs h b.0 bs.0.0 n)
  receiver_ok c name site _ _ xs vs (dict k l r u i q) h b bs n =
      let o = dict_at s.p s.a s.q.sites s.sorts s.heap s.typed r u i in
      at_object_ok s r (Mapped o.pairs) (object_method s.q c name r vs) o.there
      (dict_method_ok c r u k o.pairs q o.are name (methods.method_named name) (method_is name) site xs vs h b bs.0 n)
  receiver_ok c name site _ _ xs vs (inst d l r e i q) h b bs n =
      let o = instance_at s.p s.a s.q.sites s.sorts s.heap s.typed r e i in
      let has = (fits s (methods.has_method s.p.tables.classes name d) shape.Nothing b.0).0 in
      at_object_ok s r (Instance e o.attributes) (object_method s.q c name r vs) o.there
      (subst (λ p. Sounds s (if_some bad p (λ f. enter s.q c f (Ref r ∷ vs)))) (sym (same_method s.p s.q s.sees e name))
      (instance_method c name d e r xs vs i q o.has h has bs n (line.method s.p.tables.classes e name) refl (method_down s.p.tables.classes s.sees.tree.tree s.a.same name e d q has)))
  receiver_ok c name site x v xs vs i h b bs n = absurd (misfits s b.0)

  pub method_ok : (c : Covers) (name : List ℕ) (site : Option ℕ) (xs : List Shape) (vs : List Value) → Have s xs vs → Pieces (row.called s.p.tables name site xs shape.Nothing)
      → Parted (row.called s.p.tables name site xs) (asking.method_parts s.p s.a name xs) → Met s (asking.with_first (asking.method_asks s.p s.a name site) xs) → Sounds s (method s.q c name vs)
  method_ok c name site [] vs h b bs n = absurd (misfits s b.0)
  method_ok c name site (x ∷ xs) [] h b bs n = absurd h
  method_ok c name site (x ∷ xs) (v ∷ vs) h b bs n = receiver_ok c name site x v xs vs h.0 h.1 b bs n
