-- Facts that answers carry.
use Rattle.std.specs.Prelude.{Result, Ok, Err, OnOk, OnErr, IfOk}

pub on_ok_always : {T E P : Type 0} (r : Result T E) → P → OnOk r P
on_ok_always (Ok x) p = p
on_ok_always (Err e) p = tt

pub on_ok_both : {T E P Q S : Type 0} (r : Result T E) → (P → Q → S) → OnOk r P → OnOk r Q → OnOk r S
on_ok_both (Ok x) both p q = both p q
on_ok_both (Err e) both p q = tt

pub on_err_always : {T E P : Type 0} (r : Result T E) → P → OnErr r P
on_err_always (Ok x) p = tt
on_err_always (Err e) p = p

pub if_ok : {T E : Type 0} {P Q : T → Type 0} (r : Result T E) → ((x : T) → P x → Q x) → IfOk r P → IfOk r Q
if_ok {T} {E} {P} {Q} (Ok x) f is = f x is
if_ok {T} {E} {P} {Q} (Err e) f is = tt
