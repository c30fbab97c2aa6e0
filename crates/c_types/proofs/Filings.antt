-- Steps at file scope: what each leaves as it was, and what holds after it where nothing is in breach.
use Rattle.std.proofs.Common.{◌≡◌, ℕ, true, List, length, Option, Some, unwrap_or, ap, sym, subst}
use Rattle.c_ir.specs.Numbers.{count, none}
use Rattle.c_rules.specs.Breaches.{Breaches, Env}
use Rattle.c_rules.specs.Fits.{entry_fits}
use Rattle.c_rules.specs.declared.scope.Entry.{Entry}
use Rattle.c_typing.specs.FileScope as file
use Rattle.c_typing.specs.FileScope.{Declared, Filed}
use Rattle.c_typing.specs.Walking as walk
use Rattle.c_typing.specs.Walking.{Names, Made, Went}
use Rattle.c_types.proofs.Files.{All, Opens, Sound, SoundAt, EntryStands, sound_named}
use Rattle.c_types.proofs.Steps.{Free, Step, Adds}

-- where P holds before the step, Q holds after it
pub record Files {X : Type 0} (w : All) (d : Declared) (v : Filed X) (P Q : Type 0) : Type 0 where
  pub back : Free v.breaches → Opens w v.declared → Opens w d
  pub good : Free v.breaches → Opens w v.declared → SoundAt w d → P → SoundAt w v.declared × Q

pub pure_files : {X : Type 0} (w : All) (d : Declared) (x : X) (P : Type 0) → Files w d (file.pure x d) P P
pure_files w d x P = record { back = λ free o. o; good = λ free o h p. (h, p) }

pub then_files : {X Y : Type 0} (w : All) (d : Declared) (a : Filed X) (b : Filed Y) (P Q R : Type 0) → Files w d a P Q → Files w a.declared b Q R → Files w d (file.after a b) P R
then_files w d a b P Q R f g = record {
  back = λ free o. f.back free.0 (g.back free.1 o);
  good = λ free o h p.
      let first = f.good free.0 (g.back free.1 o) h p in
      g.good free.1 o first.0 first.1;
}

pub as_files : {X : Type 0} (w : All) (d : Declared) (v : Filed X) (P Q R : Type 0) → (Q → R) → Files w d v P Q → Files w d v P R
as_files w d v P Q R f g = record {
  back = g.back;
  good = λ free o h p. let r = g.good free o h p in (r.0, f r.1);
}

pub breach_files : (w : All) (d : Declared) (b : Breaches) (P : Type 0) → Files w d (file.breach b d) P (P × Free b)
breach_files w d b P = record { back = λ free o. o; good = λ free o h p. (h, (p, free)) }

-- what is in breach
pub broken_files : {X : Type 0} (w : All) (d : Declared) (v : Filed X) (P Q : Type 0) → (Free v.breaches → ⊥) → Files w d v P Q
broken_files w d v P Q not_free = record {
  back = λ free o. absurd (not_free free);
  good = λ free o h p. absurd (not_free free);
}

-- ---- walks over statements

same_length : (n m : ℕ) → count n none ≡ Some m → n ≡ m
same_length n m is = ap (λ (o : Option ℕ). unwrap_or o n) is

-- names stay, and no points and sites are made
pub sound_walked : (w : All) (d : Declared) (s : Names) (m : Made) → s.env ≡ d.names.env → Adds d.made m none none → SoundAt w d → SoundAt w (record d { names = s; made = m })
sound_walked w d s m same adds h =
    let point = λ (n : ℕ). Sound w s.env n (length m.sites) d.functions d.definitions d.starts in
    let site = λ (n : ℕ). Sound w s.env (length d.made.points) n d.functions d.definitions d.starts in
    let name = λ (env : Env). Sound w env (length d.made.points) (length d.made.sites) d.functions d.definitions d.starts in
    subst point (same_length _ _ adds.points) (subst site (same_length _ _ adds.sites) (subst name (sym same) h))

pub walked_files : {X : Type 0} (w : All) (d : Declared) (v : Went X) (P Q : Type 0) → Step w.whole d.names d.made v Q → v.names.env ≡ d.names.env → Adds d.made v.made none none → Files w d (file.went d v) P (P × Q)
walked_files w d v P Q step same adds = record {
  back = λ free o. record { made = step.back o.made; functions = o.functions };
  good = λ free o h p. (sound_walked w d v.names v.made same adds h, (p, step.good o.made h.fits free));
}

-- a name stands for something else, which fits
pub named_files : (w : All) (d : Declared) (x : List ℕ) (entry : Entry) (P : Type 0) → (P → Opens w d → (entry_fits w.whole.layout (Some entry) ≡ true) × EntryStands w d.functions d.definitions x (Some entry)) → Files w d (file.walked (walk.name_is x entry) d) P P
unfolding walk.name_is
named_files w d x entry P fits =
    let before : Opens w (file.walked (walk.name_is x entry) d).declared → Opens w d = λ o. record { made = o.made; functions = o.functions } in
    record {
      back = λ free o. before o;
      good = λ free o h p.
          let f = fits p (before o) in
          (sound_named w d.names.env (length d.made.points) (length d.made.sites) d.functions d.definitions d.starts x entry f.0 f.1 h, p);
    }
