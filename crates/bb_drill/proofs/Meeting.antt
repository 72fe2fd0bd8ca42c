-- What one session meets, of its parts.
use Rattle.std.proofs.Common.{◌≡◌, ◌≢◌, ℕ, Bool, true, false, not, List, [], ◌∷◌, Option, Some, None, is_some, length, nat_lt, ap, refl, subst, sym, ◌∙◌, arith, rules}
use Rattle.std.specs.Bool.{MatchBool}
use Rattle.bb_flash.specs.Memory.{Memory}
use Rattle.bb_drill.specs.declared.command.DrillCommand.{DrillCommand}
use Rattle.bb_drill.specs.declared.drawn.DrawnSession.{DrawnSession}
use Rattle.bb_drill.specs.declared.sessions.SessionEnd.{SessionEnd}
use Rattle.bb_drill.specs.declared.sessions.SessionEnd.TheVariants.{Whole, Unread, Unwritten, NoMemory}
use Rattle.bb_drill.specs.Board.{BoardState, EndsSound, IsWholeSession, OnlyLooks, board_state_of}
use Rattle.bb_drill.specs.Running.{Decays, IsCalm, IsDecayed, IsMet, IsSoundMet, IsTriedSession, Runs}
use Rattle.bb_drill.specs.Tables.{TableRules, allowed_after, has_table, table_given}

-- a decay, or none, leaves the geometry and the starts
pub record Stays (before after : Memory) : Type 0 where
  pub geometry : after.geometry ≡ before.geometry
  pub starts : after.told.starts ≡ before.told.starts

stays_same : (before after : Memory) → after ≡ before → Stays before after
stays_same before after same = record {
  geometry = ap (λ (memory : Memory). memory.geometry) same;
  starts = ap (λ (memory : Memory). memory.told.starts) same;
}

stays_where : (rules : TableRules) (copy : ℕ) (before after : Memory) (decays there : Bool) → MatchBool there (Decays rules copy before after decays) ((decays ≡ false) × (after ≡ before)) → Stays before after
stays_where rules copy before after decays true is = record { geometry = is.geometry; starts = is.starts }
stays_where rules copy before after decays false is = stays_same before after is.1

stays : (rules : TableRules) (copy : Option ℕ) (before after : Memory) (decays : Bool) → IsDecayed rules copy before after decays → Stays before after
stays rules None before after decays is = stays_same before after is.1
stays rules (Some copy) before after decays is = stays_where rules copy before after decays (nat_lt copy 3) is

is_drawn : (rules : TableRules) (copy : Option ℕ) (before after : Memory) (decays : Bool) → IsDecayed rules copy before after decays → decays ≡ true → is_some copy ≡ true
is_drawn rules None before after decays is h = sym is.0 ∙ h
is_drawn rules (Some copy) before after decays is h = refl

-- a session in which nothing failed and that didn't end without memory was whole
whole_of : (rules : TableRules) (runs : Runs) (command : DrillCommand) (before after : BoardState) (end : SessionEnd) (made : List ℕ) (allowed allowed' : List (List ℕ)) → EndsSound rules runs command before after end → end ≢ NoMemory → allowed' ≡ allowed_after end made allowed → IsWholeSession rules runs command before after × (allowed' ≡ made ∷ [])
whole_of rules runs command before after Whole made allowed allowed' sound ended is = (sound, is)
whole_of rules runs command before after Unread made allowed allowed' sound ended is = absurd sound
whole_of rules runs command before after Unwritten made allowed allowed' sound ended is = absurd sound
whole_of rules runs command before after NoMemory made allowed allowed' sound ended is = absurd (ended refl)

sound_met : (rules : TableRules) (runs : Runs) (drawn : DrawnSession) (old seen tried : Memory) (table made : List ℕ) (allowed allowed' : List (List ℕ)) (end : SessionEnd) (reached : Bool) → OnlyLooks old seen → seen.faults ≡ old.faults → table ≡ table_given rules old.told.image → made ≡ rules.made drawn.command table → IsTriedSession rules runs drawn seen tried end reached → allowed' ≡ allowed_after end made allowed → end ≢ NoMemory → drawn.cut ≡ None → IsCalm old → IsSoundMet rules runs drawn.command old tried allowed'
sound_met rules runs drawn old seen tried table made allowed allowed' end reached looks faults table_is made_is is follows ended none calm =
    let before : IsCalm seen = record { faults = faults ∙ calm.faults; start_faults = looks.start_faults ∙ calm.start_faults } in
    let whole = whole_of rules runs drawn.command (board_state_of seen) (board_state_of tried) end made allowed allowed' (is.sound none before) ended follows in
    record {
      calm = is.calm none before;
      ran = subst (λ (state : BoardState). runs drawn.command state (board_state_of tried)) looks.state whole.0.ran;
      allowed =
          whole.1
          ∙ ap (λ (one : List ℕ). one ∷ [])
          (made_is ∙ ap (rules.made drawn.command) table_is
          ∙ sym (whole.0.table ∙ ap (λ (state : BoardState). rules.made drawn.command (table_given rules state.image)) looks.state));
    }

pub met_of : (rules : TableRules) (runs : Runs) (drawn : DrawnSession) (old seen tried left : Memory) (table made : List ℕ) (allowed allowed' : List (List ℕ)) (among : Bool) (end : SessionEnd) (reached decays : Bool) → OnlyLooks old seen → seen.faults ≡ old.faults → table ≡ table_given rules old.told.image → among ≡ has_table table allowed → made ≡ rules.made drawn.command table → IsTriedSession rules runs drawn seen tried end reached → allowed' ≡ allowed_after end made allowed → end ≢ NoMemory → IsDecayed rules drawn.decay tried left decays → IsMet rules runs drawn old left allowed allowed' (record { wrong = not among; cut = reached; decay = decays })
met_of rules runs drawn old seen tried left table made allowed allowed' among end reached decays looks faults table_is among_is made_is is follows ended decayed =
    let kept = stays rules drawn.decay tried left decays decayed in
    let left_starts : length left.told.starts ≡ length tried.told.starts = ap length kept.starts in
    let seen_starts : length seen.told.starts ≡ length old.told.starts = ap (λ (state : BoardState). length state.starts) looks.state in
    record {
      on = record {
        geometry = kept.geometry ∙ is.on.geometry ∙ looks.geometry;
        starts = omega (arith, left_starts, seen_starts, is.on.starts);
      };
      cut = is.cut;
      decay = is_drawn rules drawn.decay tried left decays decayed;
      wrong = ap not (among_is ∙ ap (λ (one : List ℕ). has_table one allowed) table_is);
      end = end;
      followed = follows ∙ ap (λ (one : List ℕ). allowed_after end one allowed) (made_is ∙ ap (rules.made drawn.command) table_is);
      sound = λ no_cut no_decay calm.
          let same = subst (λ (copy : Option ℕ). IsDecayed rules copy tried left decays) no_decay decayed in
          subst (λ (memory : Memory). IsSoundMet rules runs drawn.command old memory allowed') (sym same.1)
          (sound_met rules runs drawn old seen tried table made allowed allowed' end reached looks faults table_is made_is is follows ended no_cut calm);
    }
