-- Methods of strings, lists, dicts and instances.
use Rattle.std.proofs.Common.{◌≡◌, ℕ, Bool, true, false, List, [], ◌∷◌, length, Option, Some, None, refl, ap, sym, subst, codes}
use Rattle.std.specs.Prelude.{◌||◌, ◌&&◌, nat_eq, nat_le, map, sum_by, if◌then◌else◌}
use Rattle.std.specs.List.{join_by, slice_split, starts_with, ends_with}
use Rattle.std.specs.Str.{bytes_eq}
use Rattle.rpy_base.specs.Number.{blank, trimmed}
use Rattle.rpy_tree.specs.Value.{Value, Text, Listed}
use Rattle.rpy_meaning.specs.declared.row.Covers.{Covers}
use Rattle.rpy_meaning.specs.World.{bad, new_object, new_text, if_some}
use Rattle.rpy_meaning.specs.Costs.{split_cost}
use Rattle.rpy_meaning.specs.Methods as meant
use Rattle.rpy_meaning.specs.Methods.{texts_of, new_parts, place_of, place_or_minus_one, taken_out, list_methods, dict_methods, text_methods}
use Rattle.rpy_meaning.specs.Operations.{method}
use Rattle.ann_lattice.specs.declared.method.Method.{Method}
use Rattle.ann_lattice.specs.declared.method.Method.TheVariants as m
use Rattle.ann_lattice.specs.Shape.{Width, One, Any, OrNone, Shape, NoneOnly, Truth, Num, Str, Tup, Lst, Dct, Inst, Shapes, end}
use Rattle.ann_lattice.specs.Shape as shape
use Rattle.ann_lattice.specs.Kind.{misfit, given, is_char, is_str}
use Rattle.ann_lattice.specs.Order.{Below}
use Rattle.ann_lattice.specs.Methods as methods
use Rattle.ann_rules.specs.Asks.{items_of, to_items, to_keys, flow, from_each, reach, results, when}
use Rattle.ann_rules.specs.Asks as asking
use Rattle.sound_values.specs.Values.{Fills, text, list}
use Rattle.sound_values.specs.Heaps.{AllOf}
use Rattle.sound_values.proofs.Objects.{list_at}
use Rattle.sound_rows.proofs.Tools.{no, Setting, Sounds, Has, Have, Under, misfits, fits, truth_of, paying_ok, with_list_ok, listed_ok}
use Rattle.sound_rows.proofs.Operands.{and_right, text_of, byte_of}
use Rattle.sound_rows.proofs.Words.{num_ok}
use Rattle.sound_rows.proofs.Texts.{new_text_ok}
use Rattle.sound_rows.proofs.Containers.{Met, Items, items_same, goes, AllUnder}
use Rattle.sound_rows.proofs.Attributes.{same_name}

-- ---- methods by their names

pub data Named : List ℕ → Method → Type 0 where
  joins : Named (codes "join") m.Join
  splits : Named (codes "split") m.Split
  finds : Named (codes "find") m.Find
  starts : Named (codes "startswith") m.StartsWith
  ends : Named (codes "endswith") m.EndsWith
  strips : Named (codes "strip") m.Strip
  digits : Named (codes "isdigit") m.IsDigit
  letters : Named (codes "isalpha") m.IsAlpha
  spaces : Named (codes "isspace") m.IsSpace
  appends : Named (codes "append") m.Append
  pops : Named (codes "pop") m.Pop
  inserts : Named (codes "insert") m.Insert
  extends : Named (codes "extend") m.Extend
  reverses : Named (codes "reverse") m.Reverse
  gets : Named (codes "get") m.Get
  keys : Named (codes "keys") m.Keys
  iter_keys : Named (codes "iterkeys") m.Keys
  all_values : Named (codes "values") m.Values
  iter_values : Named (codes "itervalues") m.Values
  all_pairs : Named (codes "items") m.Items
  iter_pairs : Named (codes "iteritems") m.Items
  others : (name : List ℕ) → Named name m.Other

by_name : (name word : List ℕ) (n r : Method) (b : Bool) → bytes_eq name word ≡ b → Named word n → Named name r → Named name (if b then n else r)
by_name name word n r true e h i = subst (λ x. Named x n) (sym (same_name name word e)) h
by_name name word n r false e h i = i

by_names : (name word other : List ℕ) (n r : Method) (b c : Bool) → bytes_eq name word ≡ b → bytes_eq name other ≡ c → Named word n → Named other n → Named name r → Named name (if b || c then n else r)
by_names name word other n r true c e f h j i = subst (λ x. Named x n) (sym (same_name name word e)) h
by_names name word other n r false true e f h j i = subst (λ x. Named x n) (sym (same_name name other f)) j
by_names name word other n r false false e f h j i = i

dict_named : (name : List ℕ) → Named name (methods.dict_method_named name)
dict_named name =
    by_name name (codes "get") m.Get _ (bytes_eq name (codes "get")) refl gets
    (by_names name (codes "keys") (codes "iterkeys") m.Keys _ (bytes_eq name (codes "keys")) (bytes_eq name (codes "iterkeys")) refl refl keys iter_keys
    (by_names name (codes "values") (codes "itervalues") m.Values _ (bytes_eq name (codes "values")) (bytes_eq name (codes "itervalues")) refl refl all_values iter_values
    (by_names name (codes "items") (codes "iteritems") m.Items m.Other (bytes_eq name (codes "items")) (bytes_eq name (codes "iteritems")) refl refl all_pairs iter_pairs (others name))))

list_named : (name : List ℕ) → Named name (methods.list_method_named name)
list_named name =
    by_name name (codes "append") m.Append _ (bytes_eq name (codes "append")) refl appends
    (by_name name (codes "pop") m.Pop _ (bytes_eq name (codes "pop")) refl pops
    (by_name name (codes "insert") m.Insert _ (bytes_eq name (codes "insert")) refl inserts
    (by_name name (codes "extend") m.Extend _ (bytes_eq name (codes "extend")) refl extends
    (by_name name (codes "reverse") m.Reverse (methods.dict_method_named name) (bytes_eq name (codes "reverse")) refl reverses (dict_named name)))))

pub method_is : (name : List ℕ) → Named name (methods.method_named name)
method_is name =
    by_name name (codes "join") m.Join _ (bytes_eq name (codes "join")) refl joins
    (by_name name (codes "split") m.Split _ (bytes_eq name (codes "split")) refl splits
    (by_name name (codes "find") m.Find _ (bytes_eq name (codes "find")) refl finds
    (by_name name (codes "startswith") m.StartsWith _ (bytes_eq name (codes "startswith")) refl starts
    (by_name name (codes "endswith") m.EndsWith _ (bytes_eq name (codes "endswith")) refl ends
    (by_name name (codes "strip") m.Strip _ (bytes_eq name (codes "strip")) refl strips
    (by_name name (codes "isdigit") m.IsDigit _ (bytes_eq name (codes "isdigit")) refl digits
    (by_name name (codes "isalpha") m.IsAlpha _ (bytes_eq name (codes "isalpha")) refl letters
    (by_name name (codes "isspace") m.IsSpace (methods.list_method_named name) (bytes_eq name (codes "isspace")) refl spaces (list_named name)))))))))

module _ (s : Setting) where
  -- ---- arguments

  pub no_value : (xs : List Shape) (vs : List Value) → Have s xs vs → methods.no_args xs ≡ true → vs ≡ []
  no_value [] [] h e = refl
  no_value [] (v ∷ vs) h e = absurd h
  no_value (x ∷ xs) vs h e = absurd (no e)

  pub record OneText (vs : List Value) : Type 0 where
    pub bytes : List ℕ
    pub are : vs ≡ Text bytes ∷ []

  one_text : (xs : List Shape) (vs : List Value) → Have s xs vs → methods.one_str xs ≡ true → OneText vs
  one_text [] vs h e = absurd (no e)
  one_text (x ∷ []) [] h e = absurd h
  one_text (x ∷ []) (v ∷ []) h e = let t = text_of s x v h.0 e in record { bytes = t.bytes; are = ap (λ u. u ∷ []) t.is }
  one_text (x ∷ []) (v ∷ u ∷ vs) h e = absurd h.1
  one_text (x ∷ y ∷ xs) vs h e = absurd (no e)

  pub record OneByte (vs : List Value) : Type 0 where
    pub byte : ℕ
    pub are : vs ≡ Text (byte ∷ []) ∷ []

  one_byte : (xs : List Shape) (vs : List Value) → Have s xs vs → methods.one_char xs ≡ true → OneByte vs
  one_byte [] vs h e = absurd (no e)
  one_byte (x ∷ []) [] h e = absurd h
  one_byte (x ∷ []) (v ∷ []) h e = let t = byte_of s x v h.0 e in record { byte = t.byte; are = ap (λ u. u ∷ []) t.is }
  one_byte (x ∷ []) (v ∷ u ∷ vs) h e = absurd h.1
  one_byte (x ∷ y ∷ xs) vs h e = absurd (no e)

  -- ---- strings

  pub record AreTexts (vs : List Value) : Type 0 where
    pub texts : List (List ℕ)
    pub is : texts_of vs ≡ Some texts

  texts_more : (bytes : List ℕ) (vs : List Value) → AreTexts vs → AreTexts (Text bytes ∷ vs)
  texts_more bytes vs h = record { texts = bytes ∷ h.texts; is = ap (meant.with_first bytes) h.is }

  first_text : (x : Shape) (v : Value) (vs : List Value) → Has s x v → methods.can_be_joined x ≡ true → AreTexts vs → AreTexts (v ∷ vs)
  first_text _ _ vs (text width bytes f) e h = texts_more bytes vs h
  first_text x v vs i e h = absurd (no e)

  texts_are : (x : Shape) (vs : List Value) → AllOf s.p s.a s.sorts x vs → methods.can_be_joined x ≡ true → AreTexts vs
  texts_are x [] h e = record { texts = []; is = refl }
  texts_are x (v ∷ vs) h e = first_text x v vs h.0 e (texts_are x vs h.1 e)

  joined_list : (a : Shape) (bytes : List ℕ) (x : Shape) (v : Value) → Has s x v → Under s (methods.joined a (x ∷ []) shape.Nothing) → AllUnder s (methods.joined a (x ∷ [])) (asking.held s.p s.a x)
      → Sounds s (meant.join bytes (v ∷ []))
  joined_list a bytes _ _ (list k false r u h q) b bs =
      let o = list_at s.p s.a s.q.sites s.sorts s.heap s.typed r u h in
      let g = fits s (is_str a && methods.can_be_joined (Items s k)) (Str Any) bs.0 in
      let t = texts_are (Items s k) o.items (subst (λ x. AllOf s.p s.a s.sorts x o.items) (items_same s u k q) o.are) (and_right (is_str a) (methods.can_be_joined (Items s k)) g.0) in
      with_list_ok s r o.items (λ vs. if_some bad (texts_of vs) (λ texts. new_text (join_by (λ t. t) bytes texts))) o.there
      (subst (λ p. Sounds s (if_some bad p (λ texts. new_text (join_by (λ t. t) bytes texts)))) (sym t.is) (new_text_ok s (join_by (λ t. t) bytes t.texts) g.1))
  joined_list a bytes x v h b bs = absurd (misfits s b)

  joined_more : (a : Shape) (x y : Shape) (xs : List Shape) → methods.joined a (x ∷ y ∷ xs) shape.Nothing ≡ misfit
  joined_more a (Lst k false) y xs = refl
  joined_more a x y xs = refl

  join_ok : (a : Shape) (bytes : List ℕ) (xs : List Shape) (vs : List Value) → Have s xs vs → Under s (methods.joined a xs shape.Nothing) → AllUnder s (methods.joined a xs) (asking.first_held s.p s.a xs)
      → Sounds s (meant.join bytes vs)
  join_ok a bytes [] vs h b bs = absurd (misfits s b)
  join_ok a bytes (x ∷ []) [] h b bs = absurd h
  join_ok a bytes (x ∷ []) (v ∷ []) h b bs = joined_list a bytes x v h.0 b bs
  join_ok a bytes (x ∷ []) (v ∷ u ∷ vs) h b bs = absurd h.1
  join_ok a bytes (x ∷ y ∷ xs) vs h b bs = absurd (misfits s (subst (λ z. Under s z) (joined_more a x y xs) b))

  parts_are : (site : ℕ) (texts : List (List ℕ)) → Below s.p.tables.classes s.a.same (Str Any) (Items s site) → AllOf s.p s.a s.sorts (Items s site) (map Text texts)
  parts_are site [] b = tt
  parts_are site (t ∷ texts) b = (goes s (Str Any) (Items s site) (Text t) b (text Any t tt), parts_are site texts b)

  split_ok : (site : Option ℕ) (bytes : List ℕ) (xs : List Shape) (vs : List Value) → Have s xs vs → Under s (methods.own_list site (methods.one_char xs)) → Met s (asking.split_asks s.p s.a m.Split site)
      → Sounds s (meant.split bytes vs)
  split_ok None bytes xs vs h b n = absurd (misfits s b)
  split_ok (Some site) bytes xs vs h b n =
      let g = fits s (methods.one_char xs) (Lst site false) b in
      let t = one_byte xs vs h g.0 in
      let parts = slice_split (nat_eq t.byte) bytes in
      subst (λ us. Sounds s (meant.split bytes us)) (sym t.are)
      (paying_ok s (split_cost (length parts) (sum_by length parts)) (new_object (Listed (map Text parts))) (listed_ok s site (map Text parts) (parts_are site parts n.0.0) g.1))

  byte_ok : (f : ℕ → Bool) (width : Width) (bytes : List ℕ) (xs : List Shape) (vs : List Value) → Fills width bytes → Have s xs vs
      → Under s (given (is_char (Str width) && methods.no_args xs) (Truth None)) → Sounds s (meant.is_byte f bytes vs)
  byte_ok f One [] xs vs i h b = absurd i
  byte_ok f One (n ∷ []) xs vs i h b = let g = fits s (methods.no_args xs) (Truth None) b in subst (λ us. Sounds s (meant.is_byte f (n ∷ []) us)) (sym (no_value xs vs h g.0)) (truth_of s (f n) g.1)
  byte_ok f One (n ∷ l ∷ bytes) xs vs i h b = absurd i
  byte_ok f Any bytes xs vs i h b = absurd (misfits s b)
  byte_ok f OrNone bytes xs vs i h b = absurd (misfits s b)

  pub text_method_ok : (c : Covers) (name : List ℕ) (n : Method) → Named name n → (site : Option ℕ) (width : Width) (bytes : List ℕ) (xs : List Shape) (vs : List Value)
      → Fills width bytes → Have s xs vs → Under s (methods.text_method n site (Str width) xs shape.Nothing) → AllUnder s (methods.text_method n site (Str width) xs) (asking.first_held s.p s.a xs)
      → Met s (asking.split_asks s.p s.a n site) → Sounds s (method s.q c name (Text bytes ∷ vs))
  text_method_ok c _ _ joins site width bytes xs vs f h b bs n = join_ok (Str width) bytes xs vs h b bs
  text_method_ok c _ _ splits site width bytes xs vs f h b bs n = split_ok site bytes xs vs h b n
  text_method_ok c _ _ finds site width bytes xs vs f h b bs n =
      let g = fits s (methods.one_str xs) (Num true) b in
      let t = one_text xs vs h g.0 in
      subst (λ us. Sounds s (meant.find bytes us)) (sym t.are) (num_ok s true (place_or_minus_one (place_of t.bytes 0 bytes)) g.1)
  text_method_ok c _ _ starts site width bytes xs vs f h b bs n =
      let g = fits s (methods.one_str xs) (Truth None) b in
      let t = one_text xs vs h g.0 in
      subst (λ us. Sounds s (meant.begins bytes us)) (sym t.are) (truth_of s (starts_with nat_eq bytes t.bytes) g.1)
  text_method_ok c _ _ ends site width bytes xs vs f h b bs n =
      let g = fits s (methods.one_str xs) (Truth None) b in
      let t = one_text xs vs h g.0 in
      subst (λ us. Sounds s (meant.ends bytes us)) (sym t.are) (truth_of s (nat_le (length t.bytes) (length bytes) && ends_with nat_eq bytes t.bytes) g.1)
  text_method_ok c _ _ strips site width bytes xs vs f h b bs n =
      let g = fits s (methods.no_args xs) (Str Any) b in
      subst (λ us. Sounds s (meant.strip bytes us)) (sym (no_value xs vs h g.0)) (new_text_ok s (trimmed bytes) g.1)
  text_method_ok c _ _ digits site width bytes xs vs f h b bs n = byte_ok meant.is_digit width bytes xs vs f h b
  text_method_ok c _ _ letters site width bytes xs vs f h b bs n = byte_ok meant.is_letter width bytes xs vs f h b
  text_method_ok c _ _ spaces site width bytes xs vs f h b bs n = byte_ok blank width bytes xs vs f h b
  text_method_ok c name n i site width bytes xs vs f h b bs j = absurd (misfits s b)
