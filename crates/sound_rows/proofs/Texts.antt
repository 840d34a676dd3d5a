-- Lengths, characters, conversions and printing.
use Rattle.std.proofs.Common.{◌≡◌, ℕ, true, false, List, [], ◌∷◌, Option, Some, refl, sym, subst, arith}
use Rattle.std.specs.Prelude.{ℤ, pos, negsuc, ◌||◌, nat_lt, length}
use Rattle.rpy_base.specs.Number.{trimmed}
use Rattle.rpy_tree.specs.Value.{Value, Word, Text, Nothing, Listed, Mapped}
use Rattle.rpy_tree.specs.Meaning.{printed, ended, spaced, print_line}
use Rattle.rpy_meaning.specs.declared.row.Covers.{Covers}
use Rattle.rpy_meaning.specs.World.{give, no_number, new_text}
use Rattle.rpy_meaning.specs.Costs.{text_cost}
use Rattle.rpy_meaning.specs.Sequences.{byte, items_of}
use Rattle.rpy_meaning.specs.Methods.{len, object_length, ord, chr, to_text, number, to_word, is_number}
use Rattle.rpy_meaning.specs.Operations.{os_write, print, write_if_any}
use Rattle.ann_lattice.specs.Shape.{One, Any, Shape, NoneOnly, Num, Str}
use Rattle.ann_lattice.specs.Kind.{given, is_int, is_bool, is_char, is_str}
use Rattle.ann_lattice.specs.Row as row
use Rattle.sound_values.specs.Values.{none, none_str, none_list, none_dict, flag, word, text, tuple, list, dict}
use Rattle.sound_values.proofs.Objects.{list_at, dict_at}
use Rattle.sound_rows.proofs.Tools.{no, Setting, Sounds, Has, Have, Under, misfits, fits, give_of, write_of, throw_ok, value_ok, none_ok, if_ok, paying_ok, at_object_ok}
use Rattle.sound_rows.proofs.Operands.{and_left, and_right, word_of, text_of, byte_of}
use Rattle.sound_rows.proofs.Words.{num_ok}

module _ (s : Setting) where
  -- a string, however long
  pub str_ok : (bytes : List ℕ) → Under s (Str Any) → Sounds s (give (Text bytes))
  str_ok bytes b = give_of s (Str Any) (Text bytes) b (text Any bytes tt)

  pub new_text_ok : (bytes : List ℕ) → Under s (Str Any) → Sounds s (new_text bytes)
  new_text_ok bytes b = paying_ok s (text_cost (length bytes)) (give (Text bytes)) (str_ok bytes b)

  pub char_ok : (n : ℕ) → Under s (Str One) → Sounds s (give (byte n))
  char_ok n b = give_of s (Str One) (byte n) b (text One (n ∷ []) tt)

  pub len_ok : (c : Covers) (x : Shape) (v : Value) → Has s x v → Under s (row.len x) → Sounds s (len c v)
  len_ok c _ _ none b = none_ok s c
  len_ok c _ _ none_str b = none_ok s c
  len_ok c _ _ (none_list u) b = none_ok s c
  len_ok c _ _ (none_dict u) b = none_ok s c
  len_ok c _ _ (text width bytes h) b = num_ok s false (pos (length bytes)) b
  len_ok c _ _ (tuple xs vs h) b = num_ok s false (pos (length (items_of vs))) b
  len_ok c _ _ (list u n r t h i) b = let o = list_at s.p s.a s.q.sites s.sorts s.heap s.typed r t h in at_object_ok s r (Listed o.items) object_length o.there (num_ok s false (pos (length o.items)) b)
  len_ok c _ _ (dict u n r t h i) b = let o = dict_at s.p s.a s.q.sites s.sorts s.heap s.typed r t h in at_object_ok s r (Mapped o.pairs) object_length o.there (num_ok s false (pos (length o.pairs)) b)
  len_ok c x v h b = absurd (misfits s b)

  pub ord_ok : (x : Shape) (v : Value) → Has s x v → Under s (given (is_char x) (Num false)) → Sounds s (ord v)
  ord_ok x v h b =
      let g = fits s (is_char x) (Num false) b in
      let a = byte_of s x v h g.0 in
      subst (λ u. Sounds s (ord u)) (sym a.is) (num_ok s false (pos a.byte) g.1)

  chr_of : (c : Covers) (z : ℤ) → Under s (Str One) → Sounds s (chr c (Word z))
  chr_of c (pos n) b = if_ok s (nat_lt n 256) _ _ (char_ok n b) (value_ok s c)
  chr_of c (negsuc n) b = value_ok s c

  pub chr_ok : (c : Covers) (x : Shape) (v : Value) → Has s x v → Under s (given (is_int x) (Str One)) → Sounds s (chr c v)
  chr_ok c x v h b =
      let g = fits s (is_int x) (Str One) b in
      let a = word_of s x v h g.0 in
      subst (λ u. Sounds s (chr c u)) (sym a.is) (chr_of c a.number g.1)

  pub to_text_ok : (x : Shape) (v : Value) → Has s x v → Under s (row.to_str x) → Sounds s (to_text v)
  to_text_ok _ _ (word n z) b = new_text_ok _ b
  to_text_ok _ _ (flag known true h) b = str_ok _ b
  to_text_ok _ _ (flag known false h) b = str_ok _ b
  to_text_ok _ _ (text One bytes h) b = give_of s (Str One) (Text bytes) b (text One bytes h)
  to_text_ok _ _ (text Any bytes h) b = str_ok bytes b
  to_text_ok x v h b = absurd (misfits s b)

  number_ok : (bytes : List ℕ) → Under s (Num true) → Sounds s (number bytes)
  number_ok bytes b = if_ok s (is_number bytes) _ no_number (num_ok s true _ b) (throw_ok s 8 (omega arith))

  pub to_word_ok : (x : Shape) (v : Value) → Has s x v → Under s (row.to_int x) → Sounds s (to_word v)
  to_word_ok _ _ (word n z) b = num_ok s n z b
  to_word_ok _ _ (flag known true h) b = num_ok s false (pos 1) b
  to_word_ok _ _ (flag known false h) b = num_ok s false (pos 0) b
  to_word_ok _ _ (text One bytes h) b = number_ok (trimmed bytes) b
  to_word_ok _ _ (text Any bytes h) b = number_ok (trimmed bytes) b
  to_word_ok x v h b = absurd (misfits s b)

  pub os_write_ok : (x y : Shape) (v u : Value) → Has s y u → v ≡ Word (pos 1) → Under s (given (is_str y) (Num false)) → Sounds s (os_write v u)
  os_write_ok x y v u h e b =
      let g = fits s (is_str y) (Num false) b in
      let a = text_of s y u h g.0 in
      subst (λ p. Sounds s (os_write p u)) (sym e)
      (subst (λ p. Sounds s (os_write (Word (pos 1)) p)) (sym a.is) (write_of s (Num false) (Word (pos (length a.bytes))) a.bytes g.1 (word false _)))

  -- ---- printing

  pub record IsLine (o : Option (List ℕ)) : Type 0 where
    pub bytes : List ℕ
    pub is : o ≡ Some bytes

  printed_is : (x : Shape) (v : Value) → Has s x v → (is_int x || is_bool x || is_str x) ≡ true → IsLine (printed v)
  printed_is _ _ (word n z) e = record { bytes = _; is = refl }
  printed_is _ _ (flag known true h) e = record { bytes = _; is = refl }
  printed_is _ _ (flag known false h) e = record { bytes = _; is = refl }
  printed_is _ _ (text width bytes h) e = record { bytes = _; is = refl }
  printed_is x v h e = absurd (no e)

  ended_is : (o : Option (List ℕ)) → IsLine o → IsLine (ended o)
  ended_is o h = subst (λ p. IsLine (ended p)) (sym h.is) (record { bytes = _; is = refl })

  spaced_is : (o p : Option (List ℕ)) → IsLine o → IsLine p → IsLine (spaced o p)
  spaced_is o p h j = subst (λ x. IsLine (spaced x p)) (sym h.is) (subst (λ x. IsLine (spaced (Some h.bytes) x)) (sym j.is) (record { bytes = _; is = refl }))

  line_is : (xs : List Shape) (vs : List Value) → Have s xs vs → row.can_be_printed xs ≡ true → IsLine (print_line vs)
  line_is [] [] h e = record { bytes = _; is = refl }
  line_is [] (v ∷ vs) h e = absurd h
  line_is (x ∷ xs) [] h e = absurd h
  line_is (x ∷ xs) (v ∷ []) h e = ended_is (printed v) (printed_is x v h.0 (and_left (is_int x || is_bool x || is_str x) (row.can_be_printed xs) e))
  line_is (x ∷ xs) (v ∷ u ∷ vs) h e =
      spaced_is (printed v) (print_line (u ∷ vs))
      (printed_is x v h.0 (and_left (is_int x || is_bool x || is_str x) (row.can_be_printed xs) e))
      (line_is xs (u ∷ vs) h.1 (and_right (is_int x || is_bool x || is_str x) (row.can_be_printed xs) e))

  pub print_ok : (xs : List Shape) (vs : List Value) → Have s xs vs → Under s (given (row.can_be_printed xs) NoneOnly) → Sounds s (print vs)
  print_ok xs vs h b =
      let g = fits s (row.can_be_printed xs) NoneOnly b in
      let l = line_is xs vs h g.0 in
      subst (λ o. Sounds s (write_if_any o)) (sym l.is) (write_of s NoneOnly Nothing l.bytes g.1 none)
