-- Files are read as they are spelled, so that no two files have one spelling.
use Rattle.std.proofs.Common.{◌≡◌, ℕ, suc, ◌+◌, ◌^◌, ◌≤◌, true, false, List, [], ◌∷◌, ◌++◌, Option, Some, None, refl, ap, ◌∙◌, arith, sym, append_assoc, length, length-append, codes, map}
use Rattle.std.specs.Fmt.{decimal}
use Rattle.std.proofs.lemmas.List.{append-nil}
use Rattle.csub_tree.specs.declared.tree.CFile.{CFile}
use Rattle.csub_tree.specs.declared.tree.CStruct.{CStruct}
use Rattle.csub_tree.specs.declared.tree.CType.{CType}
use Rattle.csub_tree.specs.declared.tree.CType.TheVariants as type
use Rattle.csub_tree.specs.declared.tree.CPrototype.{CPrototype}
use Rattle.csub_tree.specs.declared.tree.CStatic.{CStatic}
use Rattle.csub_tree.specs.declared.tree.CFunction.{CFunction}
use Rattle.csub_tree.specs.Spelling as spell
use Rattle.csub_text.specs.Written.{All, IsTypeIfAny, IsStruct, IsPrototype, IsStatic, IsFunction, IsWritten, IsSome}
use Rattle.csub_text.specs.Text.{IsText, IsNoText}
use Rattle.csub_text.specs.Read.{begins}
use Rattle.csub_text.specs.ReadFile as of
use Rattle.csub_text.specs.ReadFile.{parts_while, some_while, struct_text, prototype, cells, static_text, function, structs, prototypes, statics, functions, declarations, file, whole}
use Rattle.csub_text.proofs.Numbers.{ends, stripped_own, number_own}
use Rattle.csub_text.proofs.Statements.{two}
use Rattle.csub_text.proofs.Declarations.{Counted, all_own, struct_own, prototype_own, parts_fit}
use Rattle.csub_text.proofs.Functions.{function_own, whole_own}
use Rattle.csub_text.proofs.Cells.{cells_own}
use Rattle.csub_text.proofs.ValidFile.{whole_written}

counted_by : (a r : List ℕ) → 2 ≤ length a → suc (length r) ≤ length (a ++ r)
counted_by a r some =
    let e : length (a ++ r) ≡ length a + length r = length-append a r in
    omega (arith, e)

starts_struct : (n : ℕ) (s : CStruct) → 2 ≤ length (spell.struct_text n s)
starts_struct n s = omega arith

starts_prototype : (n : ℕ) (p : CPrototype) → 2 ≤ length (spell.prototype_text n p)
starts_prototype n p = omega arith

starts_static : (n : ℕ) (g : CStatic) → 2 ≤ length (spell.static_text n g)
starts_static n g = omega arith

starts_function : (n : ℕ) (f : CFunction) → 2 ≤ length (spell.function_text n f)
starts_function n f = omega arith

structs_counted : Counted (begins (codes "struct ")) spell.struct_text struct_text IsStruct
structs_counted = record {
  one = λ n s r ok e. struct_own n s.base s.fields s.items r ok.0 ok.1 ok.2;
  sees = λ n s r ok e. refl;
  open_end = λ n s r. refl;
  some = λ n s r. counted_by (spell.struct_text n s) r (starts_struct n s);
}

-- the head of a function is no static
no_static_at : (result : Option CType) (r : List ℕ) → IsTypeIfAny result → of.sees_static (codes "static " ++ (spell.result_before_name result ++ r)) ≡ false
no_static_at None r ok = refl
no_static_at (Some type.Signed) r ok = refl
no_static_at (Some type.Char) r ok = refl
no_static_at (Some type.Bool) r ok = refl
no_static_at (Some type.Fn) r ok = refl
no_static_at (Some (type.Ptr n)) r ok =
    ap (λ i. of.sees_static (codes "static struct s" ++ i)) (two (decimal n) (codes " *") r) ∙ rw (number_own (2 ^ 64) n (codes " *" ++ r) ok ok refl) refl

prototype_pieces : (s t f o p c e l r : List ℕ) → ((s ++ t ++ f ++ o ++ p ++ c) ++ e ++ l) ++ r ≡ s ++ (t ++ (f ++ (o ++ (p ++ (c ++ (e ++ (l ++ r)))))))
prototype_pieces s t f o p c e l r = simp append_assoc

no_static : (n : ℕ) (p : CPrototype) (r : List ℕ) → IsPrototype p → of.sees_static (spell.prototype_text n p ++ r) ≡ false
no_static n p r ok =
    ap of.sees_static (prototype_pieces (codes "static ") (spell.result_before_name p.result) (spell.function_name n) (codes "(") (spell.parameters p.params) (codes ")") (codes ";") (codes "\n") r)
    ∙ no_static_at p.result (spell.function_name n ++ (codes "(" ++ (spell.parameters p.params ++ (codes ");\n" ++ r)))) ok.0

pub prototypes_counted : Counted of.sees_prototype spell.prototype_text prototype IsPrototype
prototypes_counted = record {
  one = λ n p r ok e. prototype_own n p.result p.params r ok.0 ok.1;
  sees = λ n p r ok e. rw (no_static n p r ok) refl;
  open_end = λ n p r. refl;
  some = λ n p r. counted_by (spell.prototype_text n p) r (starts_prototype n p);
}

static_pieces : (s k g n q c e r : List ℕ) → (s ++ (k ++ g ++ n ++ q) ++ (c ++ e)) ++ r ≡ s ++ (k ++ (g ++ (n ++ (q ++ (c ++ (e ++ r))))))
static_pieces s k g n q c e r = simp append_assoc

pub static_own : (n : ℕ) (g : CStatic) (r : List ℕ) → IsStatic g → static_text n (spell.static_text n g ++ r) ≡ Some (g, r)
unfolding static_text
static_own n g r ok =
    ap (static_text n) (static_pieces (codes "static struct s") (decimal g.kind) (codes " g") (decimal n) (codes " = ") (spell.cells_text (map spell.cell_text g.cells)) (codes ";\n") r)
    ∙ rw (
      number_own (2 ^ 64) g.kind (codes " g" ++ (decimal n ++ (codes " = " ++ (spell.cells_text (map spell.cell_text g.cells) ++ (codes ";\n" ++ r))))) ok.0 ok.0 refl,
      stripped_own (decimal n) (codes " = " ++ (spell.cells_text (map spell.cell_text g.cells) ++ (codes ";\n" ++ r))),
      cells_own g.cells (codes ";\n" ++ r) ok.1 refl,
    ) refl

pub is_static : (n : ℕ) (g : CStatic) (r : List ℕ) → IsStatic g → of.sees_static (spell.static_text n g ++ r) ≡ true
is_static n g r ok =
    ap of.sees_static (static_pieces (codes "static struct s") (decimal g.kind) (codes " g") (decimal n) (codes " = ") (spell.cells_text (map spell.cell_text g.cells)) (codes ";\n") r)
    ∙ rw (number_own (2 ^ 64) g.kind (codes " g" ++ (decimal n ++ (codes " = " ++ (spell.cells_text (map spell.cell_text g.cells) ++ (codes ";\n" ++ r))))) ok.0 ok.0 refl) refl

statics_counted : Counted (begins (codes "static ")) spell.static_text static_text IsStatic
statics_counted = record {
  one = λ n g r ok e. static_own n g r ok;
  sees = λ n g r ok e. refl;
  open_end = λ n g r. refl;
  some = λ n g r. counted_by (spell.static_text n g) r (starts_static n g);
}

functions_counted : Counted of.sees_more spell.function_text function IsFunction
functions_counted = record {
  one = λ n f r ok e. function_own n f r ok;
  sees = λ n f r ok e. refl;
  open_end = λ n f r. refl;
  some = λ n f r. counted_by (spell.function_text n f) r (starts_function n f);
}

-- what comes after the structs, the prototypes and the statics
abbrev last : List CFunction → List ℕ
last fs = spell.numbered spell.function_text 0 fs

abbrev late : List CStatic → List CFunction → List ℕ
late gs fs = spell.numbered spell.static_text 0 gs ++ last fs

abbrev later : List CPrototype → List CStatic → List CFunction → List ℕ
later ps gs fs = spell.numbered spell.prototype_text 0 ps ++ late gs fs

ends_last : (fs : List CFunction) → ends (last fs) ≡ true
ends_last [] = refl
ends_last (f ∷ fs) = refl

ends_late : (gs : List CStatic) (fs : List CFunction) → ends (late gs fs) ≡ true
ends_late [] fs = ends_last fs
ends_late (g ∷ gs) fs = refl

ends_later : (ps : List CPrototype) (gs : List CStatic) (fs : List CFunction) → ends (later ps gs fs) ≡ true
ends_later [] gs fs = ends_late gs fs
ends_later (p ∷ ps) gs fs = refl

last_no_static : (fs : List CFunction) → begins (codes "static ") (last fs) ≡ false
last_no_static [] = refl
last_no_static (f ∷ fs) = refl

late_no_prototype : (gs : List CStatic) (fs : List CFunction) → All IsStatic gs → of.sees_prototype (late gs fs) ≡ false
late_no_prototype [] [] all = refl
late_no_prototype [] (f ∷ fs) all = refl
late_no_prototype (g ∷ gs) fs all =
    ap of.sees_prototype (two (spell.static_text 0 g) (spell.numbered spell.static_text 1 gs) (last fs))
    ∙ rw (is_static 0 g (spell.numbered spell.static_text 1 gs ++ last fs) all.0) refl

later_no_struct : (ps : List CPrototype) (gs : List CStatic) (fs : List CFunction) → begins (codes "struct ") (later ps gs fs) ≡ false
later_no_struct [] [] [] = refl
later_no_struct [] [] (f ∷ fs) = refl
later_no_struct [] (g ∷ gs) fs = refl
later_no_struct (p ∷ ps) gs fs = refl

functions_own : (fs : List CFunction) → All IsFunction fs → IsSome fs → functions (last fs) ≡ Some (fs, [])
unfolding functions
functions_own [] all some = absurd some
functions_own (f ∷ fs) all some =
    let e : last (f ∷ fs) ++ [] ≡ last (f ∷ fs) = append-nil (last (f ∷ fs)) in
    let more : length fs ≤ length (spell.numbered spell.function_text 1 fs ++ []) = omega (arith, parts_fit of.sees_more spell.function_text function IsFunction functions_counted 1 fs []) in
    let split : length (last (f ∷ fs) ++ []) ≡ length (spell.function_text 0 f) + length (spell.numbered spell.function_text 1 fs ++ []) =
    ap length (two (spell.function_text 0 f) (spell.numbered spell.function_text 1 fs) []) ∙ length-append (spell.function_text 0 f) (spell.numbered spell.function_text 1 fs ++ []) in
    let few = starts_function 0 f in
    ap functions (sym e) ∙ whole_own of.sees_more spell.function_text function IsFunction functions_counted (length (last (f ∷ fs) ++ [])) f fs [] refl (omega arith) all refl refl

file_pieces : (h i s p g f : List ℕ) → (h ++ i) ++ s ++ p ++ g ++ f ≡ h ++ (i ++ (s ++ (p ++ (g ++ f))))
file_pieces h i s p g f = simp append_assoc

pub file_own : (c : CFile) → IsWritten c → file (spell.file_text c) ≡ Some (c, [])
unfolding file declarations structs prototypes statics
file_own c ok =
    ap file (file_pieces (codes "/* C-sub 1 */\n") (codes "#include \"rpy_prim.h\"\n") (spell.numbered spell.struct_text 0 c.structs) (spell.numbered spell.prototype_text 0 c.prototypes) (spell.numbered spell.static_text 0 c.statics) (last c.functions))
    ∙ rw (
      all_own (begins (codes "struct ")) spell.struct_text struct_text IsStruct structs_counted 0 c.structs (later c.prototypes c.statics c.functions) ok.0 (ends_later c.prototypes c.statics c.functions) (later_no_struct c.prototypes c.statics c.functions),
      all_own of.sees_prototype spell.prototype_text prototype IsPrototype prototypes_counted 0 c.prototypes (late c.statics c.functions) ok.1 (ends_late c.statics c.functions) (late_no_prototype c.statics c.functions ok.2),
      all_own (begins (codes "static ")) spell.static_text static_text IsStatic statics_counted 0 c.statics (last c.functions) ok.2 (ends_last c.functions) (last_no_static c.functions),
      functions_own c.functions ok.3 ok.4,
    ) refl

pub whole_file : (c : CFile) → IsWritten c → whole (spell.file_text c) ≡ Some c
unfolding whole
whole_file c ok = rw (file_own c ok) refl

-- one text, one file
pub one_file : (c d : CFile) → IsWritten c → IsWritten d → spell.file_text c ≡ spell.file_text d → c ≡ d
one_file c d ok_c ok_d e =
    let t : Some c ≡ Some d = sym (whole_file c ok_c) ∙ ap whole e ∙ whole_file d ok_d in
    cc

pub texts_of_one_file : (bytes : List ℕ) (c d : CFile) → IsText bytes c → IsText bytes d → c ≡ d
texts_of_one_file bytes c d is_c is_d = one_file c d is_c.1 is_d.1 (sym is_c.0 ∙ is_d.0)

pub none_whole : (i : List ℕ) → whole i ≡ None → IsNoText i
none_whole i e c is =
    let t : None ≡ Some c = sym e ∙ ap whole is.0 ∙ whole_file c is.1 in
    cc

pub whole_text : (i : List ℕ) (c : CFile) → whole i ≡ Some c → i ≡ spell.file_text c → IsText i c
whole_text i c e is = (is, whole_written i c e)
