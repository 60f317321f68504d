-- The law `chains_lead_back` holds.
use Rattle.scene_model.proofs.TakingBack.Chains.{leads_back}
use Rattle.scene_model.proofs.laws.chains_lead_back.Goals as goal

pub returns : goal.returns
returns c = leads_back
