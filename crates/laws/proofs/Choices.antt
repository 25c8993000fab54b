-- What a test or two decide, and what holds of either choice. Assumes nothing.
use mathlib.Core.Bool.{Bool, true, false, cond, not, ◌&&◌, ◌||◌, false≢true, true≢false}
use mathlib.Core.Logic.{◌⊎◌, inl, inr}
use mathlib.Core.Option.{Option, none, some, Option-elim}
use mathlib.Core.Path.{◌≡◌, refl}

pub either : {A : Type 0} (P : A → Type 0) (b : Bool) (x y : A) → (b ≡ true → P x) → (b ≡ false → P y) → P (cond b x y)
either P true x y t f = t refl
either P false x y t f = f refl

-- a value that may be there: of what is made of it, and of what stands for it
pub if_some_is : {A B : Type 0} (P : B → Type 0) (o : Option A) (x : B) (f : A → B) → P x → ((a : A) → o ≡ some a → P (f a)) → P (Option-elim o x f)
unfolding Option-elim
if_some_is P none x f without with = without
if_some_is P (some a) x f without with = with a refl

pub if_some : {A B : Type 0} (P : B → Type 0) (o : Option A) (x : B) (f : A → B) → P x → ((a : A) → P (f a)) → P (Option-elim o x f)
if_some P o x f without with = if_some_is P o x f without (λ a _. with a)

pub both_true : (a b : Bool) → a && b ≡ true → (a ≡ true) × (b ≡ true)
both_true true b t = (refl, t)
both_true false b t = absurd (false≢true t)

-- the two ways out of `||`
pub either_true : (a b : Bool) → a || b ≡ true → (a ≡ true) ⊎ (b ≡ true)
either_true true b t = inl refl
either_true false b t = inr t

pub or_left : (a b : Bool) → a ≡ true → a || b ≡ true
or_left a b t = rw t

pub or_right : (a b : Bool) → b ≡ true → a || b ≡ true
or_right true b t = refl
or_right false b t = t

pub neither : (a b : Bool) → a || b ≡ false → (a ≡ false) × (b ≡ false)
neither true b t = absurd (true≢false t)
neither false b t = (refl, t)

pub one_false : (a b : Bool) → not (a && b) ≡ true → (a ≡ false) ⊎ (b ≡ false)
one_false true true t = absurd (false≢true t)
one_false true false t = inr refl
one_false false b t = inl refl

-- the first two of three exchanged
pub or_swap : (a b c : Bool) → a || (b || c) ≡ b || (a || c)
or_swap true true c = refl
or_swap true false c = refl
or_swap false b c = refl
