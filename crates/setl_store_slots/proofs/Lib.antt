mod Parameters
mod Growing
mod Updated
mod InSlots
