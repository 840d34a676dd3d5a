-- Calls and the way back from them.
use Rattle.std.proofs.Common.{◌≡◌, ℕ, ◌+◌, ◌++◌, ◌-◌, take, List, [], ◌∷◌, length, zero, suc, get_or, map, replicate, refl, sym, ap, ◌∙◌, Some, None, subst}
use Rattle.std.specs.Prelude.{Option, option_map, slice_get}
use Rattle.std.specs.List.{All}
use Rattle.std.proofs.lemmas.List.{length-map}
use Rattle.std.proofs.lemmas.List.Elements.{All-set, All-same, All-push, All-replicate, All-take, All-map, All-append}
use Rattle.csub_tree.specs.State.{Unset, Core}
use Rattle.csub_tree.specs.Statement.{operands, entered, taken_by, last_of, back_to, ended}
use Rattle.csub_tree.specs.declared.tree.CFunction.{CFunction}
use Rattle.csub_tree.specs.declared.tree.CConst.{CConst}
use Rattle.csub_tree.specs.declared.tree.CConst.TheVariants.{Word, Char, Bool as CBool, Null, Static, Fun}
use Rattle.csub_tree.specs.declared.tree.COperand.{COperand}
use Rattle.csub_tree.specs.declared.tree.COperand.TheVariants.{Var, Const}
use Rattle.csub_runner.specs.Erased.{erase, erase_all, erase_caller, raw_constant, raw_operand}
use Rattle.csub_runner.specs.Waiting.{Waiting, raw_last, raw_taken}
use Rattle.csub_runner.specs.declared.heap.Heap.{Heap}
use Rattle.csub_runner.specs.declared.val.Cells.{Cells}
use Rattle.csub_runner.specs.declared.val.Val.{Val}
use Rattle.csub_runner.specs.declared.val.Val.TheVariants.{Unset as RawUnset}
use Rattle.csub_runner.specs.declared.machine.Next.{Next}
use Rattle.csub_runner.specs.declared.machine.Next.TheVariants.{Goes}
use Rattle.csub_runner.specs.Heap.{ValOk}
use Rattle.csub_runner.specs.Core.{AllOk, IsStep}
use Rattle.csub_runner.proofs.Blocks.{vals_at, erased_unset, erased_set}
use Rattle.csub_runner.proofs.Erasing.{operands_erased}
use Rattle.csub_runner.proofs.Steps.{got_all}

pub constant_ok : (heap : Heap) (c : CConst) → ValOk heap (raw_constant c)
constant_ok heap (Word n) = tt
constant_ok heap (Char b) = tt
constant_ok heap (CBool b) = tt
constant_ok heap Null = tt
constant_ok heap (Static n g) = tt
constant_ok heap (Fun f) = tt

operand_ok : (heap : Heap) (vars : List Val) (x : COperand) → All (ValOk heap) vars → ValOk heap (raw_operand vars x)
operand_ok heap vars (Var a) ok = vals_at heap vars a ok
operand_ok heap vars (Const c) ok = constant_ok heap c

operands_ok : (heap : Heap) (vars : List Val) (xs : List COperand) → All (ValOk heap) vars → All (ValOk heap) (map (raw_operand vars) xs)
operands_ok heap vars xs ok = All-map (ValOk heap) (raw_operand vars) xs (λ k d lt. operand_ok heap vars (get_or xs k d) ok)

pub entered_ok : (heap : Heap) (vars fresh : List Val) (callers callers2 : List Waiting) (statics : List Cells) (t v : Val) (xs : List COperand) (n : ℕ) (w : Waiting) → AllOk heap vars callers statics t v
    → fresh ≡ map (raw_operand vars) xs ++ replicate n RawUnset → w.vars ≡ vars → callers2 ≡ callers ++ w ∷ [] → AllOk heap fresh callers2 statics t v
entered_ok heap vars fresh callers callers2 statics t v xs n w ok e same c = record {
  sound = ok.sound;
  vars_ok = All-same (ValOk heap) fresh (map (raw_operand vars) xs ++ replicate n RawUnset) e (All-append (ValOk heap) (map (raw_operand vars) xs) (replicate n RawUnset) (operands_ok heap vars xs ok.vars_ok) (All-replicate (ValOk heap) n RawUnset tt));
  callers_ok = All-same (λ u. All (ValOk heap) u.vars) callers2 (callers ++ w ∷ []) c (All-push (λ u. All (ValOk heap) u.vars) callers w ok.callers_ok (All-same (ValOk heap) w.vars vars same ok.vars_ok));
  statics_ok = ok.statics_ok;
  type_ok = ok.type_ok;
  value_ok = ok.value_ok;
}

erased_append : (xs ys : List Val) → erase_all (xs ++ ys) ≡ erase_all xs ++ erase_all ys
erased_append [] ys = refl
erased_append (x ∷ xs) ys = ap (λ vs. erase x ∷ vs) (erased_append xs ys)

erased_push : (ws : List Waiting) (w : Waiting) → map erase_caller (ws ++ w ∷ []) ≡ map erase_caller ws ++ erase_caller w ∷ []
erased_push [] w = refl
erased_push (x ∷ ws) w = ap (λ cs. erase_caller x ∷ cs) (erased_push ws w)

fresh_erased : (vars : List Val) (xs : List COperand) (n : ℕ) → erase_all (map (raw_operand vars) xs ++ replicate n RawUnset) ≡ operands (erase_all vars) xs ++ replicate n Unset
fresh_erased vars xs n = erased_append (map (raw_operand vars) xs) (replicate n RawUnset)
    ∙ ap (λ vs. vs ++ erase_all (replicate n RawUnset)) (operands_erased vars xs) ∙ ap (λ vs. operands (erase_all vars) xs ++ vs) (erased_unset n)

pub entered_is : (core : Core) (vars fresh : List Val) (callers callers2 : List Waiting) (into : Option ℕ) (f n : ℕ) (xs : List COperand) (function : CFunction) (w : Waiting) → core.vars ≡ erase_all vars → core.callers ≡ map erase_caller callers
    → fresh ≡ map (raw_operand vars) xs ++ replicate n RawUnset → n ≡ length function.locals → callers2 ≡ callers ++ w ∷ []
    → erase_caller w ≡ record { function = core.function; block = core.block; at = core.at + 1; vars = core.vars; into = into }
    → record core { function = f; block = 0; at = 0; vars = erase_all fresh; callers = map erase_caller callers2 } ≡ entered core into f (operands (erase_all vars) xs) function
entered_is core vars fresh callers callers2 into f n xs function w vs cs e len c is =
    ap (λ ys. record core { function = f; block = 0; at = 0; vars = ys; callers = map erase_caller callers2 }) (ap erase_all e ∙ fresh_erased vars xs n ∙ ap (λ m. operands (erase_all vars) xs ++ replicate m Unset) len)
    ∙ ap (λ ys. record core { function = f; block = 0; at = 0; vars = operands (erase_all vars) xs ++ replicate (length function.locals) Unset; callers = ys })
    (ap (map erase_caller) c ∙ erased_push callers w ∙ ap (λ ys. ys ++ erase_caller w ∷ []) (sym cs) ∙ ap (λ u. core.callers ++ u ∷ []) is)

-- back
taken_ok : (heap : Heap) (vars : List Val) (into : Option ℕ) (v : Val) → All (ValOk heap) vars → ValOk heap v → All (ValOk heap) (raw_taken vars into v)
taken_ok heap vars None v ok v_ok = ok
taken_ok heap vars (Some a) v ok v_ok = All-set (ValOk heap) vars a v v_ok ok

taken_erased : (vars : List Val) (into : Option ℕ) (v : Val) → erase_all (raw_taken vars into v) ≡ taken_by (erase_all vars) into (erase v)
taken_erased vars None v = refl
taken_erased vars (Some a) v = erased_set vars a v

pub back_ok : (heap : Heap) (vars new : List Val) (callers callers2 : List Waiting) (statics : List Cells) (t x : Val) (w u : Waiting) (v : Val) → AllOk heap vars callers statics t x → ValOk heap v → raw_last callers ≡ Some w → u ≡ w
    → new ≡ raw_taken u.vars u.into v → callers2 ≡ take (length callers - 1) callers → AllOk heap new callers2 statics t x
back_ok heap vars new callers callers2 statics t x w u v ok v_ok last same e c = record {
  sound = ok.sound;
  vars_ok = All-same (ValOk heap) new (raw_taken u.vars u.into v) e (taken_ok heap u.vars u.into v (subst (λ y. All (ValOk heap) y.vars) (sym same) (got_all (λ y. All (ValOk heap) y.vars) callers (length callers - 1) w ok.callers_ok last)) v_ok);
  callers_ok = All-same (λ y. All (ValOk heap) y.vars) callers2 (take (length callers - 1) callers) c (All-take (λ y. All (ValOk heap) y.vars) (length callers - 1) callers ok.callers_ok);
  statics_ok = ok.statics_ok;
  type_ok = ok.type_ok;
  value_ok = ok.value_ok;
}

got_erased : (ws : List Waiting) (i : ℕ) → slice_get (map erase_caller ws) i ≡ option_map erase_caller (slice_get ws i)
got_erased [] i = refl
got_erased (x ∷ ws) zero = refl
got_erased (x ∷ ws) (suc i) = got_erased ws i

taken_callers : (n : ℕ) (ws : List Waiting) → map erase_caller (take n ws) ≡ take n (map erase_caller ws)
taken_callers zero ws = refl
taken_callers (suc n) [] = refl
taken_callers (suc n) (x ∷ ws) = ap (λ cs. erase_caller x ∷ cs) (taken_callers n ws)

last_erased : (callers : List Waiting) → last_of (map erase_caller callers) ≡ option_map erase_caller (raw_last callers)
last_erased callers = ap (λ n. slice_get (map erase_caller callers) (n - 1)) (length-map callers erase_caller) ∙ got_erased callers (length callers - 1)

pub back_is : (core : Core) (new : List Val) (callers callers2 : List Waiting) (w u : Waiting) (v : Val) → core.callers ≡ map erase_caller callers → raw_last callers ≡ Some w → u ≡ w
    → new ≡ raw_taken u.vars u.into v → callers2 ≡ take (length callers - 1) callers
    → IsStep core (back_to core (erase v) (last_of (map erase_caller callers))) Goes (record core { function = u.function; block = u.block; at = u.at; vars = erase_all new; callers = map erase_caller callers2 })
back_is core new callers callers2 w u v cs last same e c =
    subst (λ o. IsStep core (back_to core (erase v) o) Goes (record core { function = u.function; block = u.block; at = u.at; vars = erase_all new; callers = map erase_caller callers2 }))
    (sym (last_erased callers ∙ ap (option_map erase_caller) (last ∙ ap Some (sym same)))) (
      refl,
      ap (λ ys. record core { function = u.function; block = u.block; at = u.at; vars = ys; callers = map erase_caller callers2 }) (ap erase_all e ∙ taken_erased u.vars u.into v)
          ∙ ap (λ ys. record core { function = u.function; block = u.block; at = u.at; vars = taken_by (erase_all u.vars) u.into (erase v); callers = ys })
          (ap (map erase_caller) c ∙ taken_callers (length callers - 1) callers ∙ ap (take (length callers - 1)) (sym cs) ∙ ap (λ n. take (n - 1) core.callers) (sym (ap length cs ∙ length-map callers erase_caller))),
    )

pub end_is : (core old : Core) (new : Core) (callers callers2 : List Waiting) (v : Val) (next : Next) → raw_last callers ≡ None → callers2 ≡ callers → core ≡ record old { callers = map erase_caller callers2 } → old.callers ≡ map erase_caller callers
    → IsStep core (ended core (erase v)) next new → IsStep old (back_to old (erase v) (last_of (map erase_caller callers))) next new
end_is core old new callers callers2 v next last same is cs step =
    subst (λ o. IsStep old (back_to old (erase v) o) next new) (sym (last_erased callers ∙ ap (option_map erase_caller) last))
    (subst (λ c. IsStep c (ended c (erase v)) next new) (is ∙ ap (λ ws. record old { callers = map erase_caller ws }) same ∙ ap (λ ws. record old { callers = ws }) (sym cs)) step)
